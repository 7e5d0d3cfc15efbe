use Rattle.viper_core.proofs.WiderLaws.{typed_among, all_typed_among, amount_among, assertion_among, fold_among}
use Rattle.viper_core.proofs.context_laws.the_types_of_visible_variables_suffice.Goals as goal

pub returns-clause-expr : goal.returns-clause-expr
returns-clause-expr _ c us visible site e u w = typed_among w

pub returns-clause-arguments : goal.returns-clause-arguments
returns-clause-arguments _ c us visible site es tys w = all_typed_among w

pub returns-clause-amount : goal.returns-clause-amount
returns-clause-amount _ c us visible site m w = amount_among w

pub returns-clause-assertion : goal.returns-clause-assertion
returns-clause-assertion _ c us visible site a w = assertion_among w

pub returns-clause-fold : goal.returns-clause-fold
returns-clause-fold _ c us visible site f w = fold_among w
