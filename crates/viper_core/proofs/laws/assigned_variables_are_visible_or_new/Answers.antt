use Rattle.viper_core.proofs.ScopeLaws.{fresh-stmts_scope, some_old_or_new}
use Rattle.viper_core.proofs.laws.assigned_variables_are_visible_or_new.Goals as goal

pub returns-clause-upward : goal.returns-clause-upward
returns-clause-upward _ = fresh-stmts_scope

pub returns-clause-assigned : goal.returns-clause-assigned
returns-clause-assigned _ m sc ss x h is = some_old_or_new x h is
