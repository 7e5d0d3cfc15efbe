use Rattle.viper_meaning.proofs.AlikeLaws.{on_alike}
use Rattle.viper_meaning.proofs.SeenLaws.{stmt_looks, block_looks}
use Rattle.viper_meaning.proofs.unit_laws.a_statement_looks_at_visible_variables_alone.Goals as goal

pub returns-clause-stmt : goal.returns-clause-stmt
returns-clause-stmt _ b m sc a x c d choices h l = on_alike (stmt_looks b a m x c d h l) choices

pub returns-clause-block : goal.returns-clause-block
returns-clause-block _ b m sc a xs c d choices h l = on_alike (block_looks b a m xs c d h l) choices
