use Rattle.std.proofs.Common.{◌∙◌, subst}
use Rattle.std.proofs.lemmas.Option.{IfSome_then}
use Rattle.vb_value.specs.Bound.{Bounded}
use Rattle.boogie_tree.specs.Whole.{expr_of}
use Rattle.boogie_meaning.specs.Value.{value}
use Rattle.boogie_eval.specs.Columns.{FitsScope}
use Rattle.boogie_eval.specs.View.{values_of, scope_of}
use Rattle.boogie_eval.proofs.ColumnLaws.{stands_is}
use Rattle.boogie_eval.proofs.eval_values.place.Goals as goal

pub returns-in-At : goal.returns-in-At
returns-in-At c =
    let env = values_of c.args.env.now in
    let row = c.in-At.row in
    IfSome_then c.value_in_row.result c.value_in_row.ensures
    (λ x there. (λ i. value Bounded (scope_of env (c.in-At.is i)) (expr_of (c.in-AtBound.is i)) env) ∙
    stands_is env row.columns.now c.in-AtBound.number row.key.now x.now (subst (FitsScope env) c.in-At.is c.requires) there)
