use Rattle.std.proofs.Common.{arith}
use Rattle.enc_block.proofs.SmallStatements.{stmt_small, block_small}
use Rattle.enc_block.proofs.laws.code_is_linear.Goals as goal

pub returns-clause-stmt : goal.returns-clause-stmt
returns-clause-stmt call m h n sc x formed fits typed = let few = (stmt_small m.program formed m.vars h m.params fits x typed).within n in omega (arith, few)

pub returns-clause-block : goal.returns-clause-block
returns-clause-block call m h n sc xs formed fits typed = let few = (block_small m.program formed m.vars h m.params fits xs typed).within n in omega (arith, few)
