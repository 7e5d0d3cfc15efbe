use Rattle.viper_core.proofs.ViewLaws.{stmt_of-While}
use Rattle.viper_types.proofs.statements.loop_statement.Goals as goal

pub returns : goal.returns
returns c = stmt_of-While c.args.turns
