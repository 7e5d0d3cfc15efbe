use Rattle.viper_exec_meaning.proofs.BudgetCutLaws.{exec_extends}
use Rattle.viper_exec_meaning.proofs.budget_laws.a_budget_only_cuts.Goals as goal

pub returns : goal.returns
returns c = λ b program m body o n more choices e. (exec_extends more b program m body o n).same choices e
