use Rattle.viper_core.proofs.ScopeLaws.{later-stmts_scope}
use Rattle.viper_core.proofs.WiderLaws.{typed_wider, assertion_wider}
use Rattle.viper_core.proofs.laws.more_may_be_visible.Goals as goal

pub returns-clause-later : goal.returns-clause-later
returns-clause-later _ = later-stmts_scope

pub returns-clause-expr : goal.returns-clause-expr
returns-clause-expr _ c e u visible site = typed_wider

pub returns-clause-assertion : goal.returns-clause-assertion
returns-clause-assertion _ c a visible site = assertion_wider
