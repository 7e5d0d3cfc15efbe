use Rattle.enc_block.proofs.KeyedStatements.{block_is_typed}
use Rattle.enc_block.proofs.laws.code_is_well_typed.Goals as goal

pub returns : goal.returns
returns call m h ts sc xs formed typed types = block_is_typed m h formed xs ts typed types
