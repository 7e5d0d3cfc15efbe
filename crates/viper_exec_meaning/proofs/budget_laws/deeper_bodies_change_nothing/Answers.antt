use Rattle.viper_exec_meaning.proofs.BudgetDepthLaws.{deeper}
use Rattle.viper_exec_meaning.proofs.budget_laws.deeper_bodies_change_nothing.Goals as goal

pub returns : goal.returns
returns c = deeper
