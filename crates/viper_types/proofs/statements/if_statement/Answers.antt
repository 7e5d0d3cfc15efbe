use Rattle.viper_core.proofs.ViewLaws.{stmt_of-If}
use Rattle.viper_types.proofs.statements.if_statement.Goals as goal

pub returns : goal.returns
returns c = stmt_of-If c.args.arm.at c.args.arm.condition c.args.arm.body c.args.second
