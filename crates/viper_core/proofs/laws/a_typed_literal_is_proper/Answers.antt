use Rattle.viper_core.proofs.LiteralLaws.{typed_literals, assertion_literals, literals_proper, literals_within}
use Rattle.viper_core.proofs.laws.a_typed_literal_is_proper.Goals as goal

pub returns-clause-expr : goal.returns-clause-expr
returns-clause-expr _ b c e u h i = typed_literals _ _ (literals_proper b) c h i

pub returns-clause-assertion : goal.returns-clause-assertion
returns-clause-assertion _ b c a h i = assertion_literals _ _ (literals_proper b) c h i

pub returns-clause-expr_within : goal.returns-clause-expr_within
returns-clause-expr_within _ c e u h i = typed_literals _ _ literals_within c h i

pub returns-clause-assertion_within : goal.returns-clause-assertion_within
returns-clause-assertion_within _ c a h i = assertion_literals _ _ literals_within c h i
