use Rattle.enc_block.proofs.BlockLaws.{stmt_runs, block_runs}
use Rattle.enc_block.proofs.laws.statements_and_their_code_end_alike.Goals as goal

pub returns-clause-stmt : goal.returns-clause-stmt
returns-clause-stmt call ts b k h params sc x formed home typed = stmt_runs ts b k h home formed params sc x typed

pub returns-clause-block : goal.returns-clause-block
returns-clause-block call ts b k h params sc xs formed home typed = block_runs ts b k h home formed params sc xs typed
