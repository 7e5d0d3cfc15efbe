-- The amount, and what the map of contents says of the index.
use Rattle.std.proofs.Common.{◌∙◌, ap}
use Rattle.std.proofs.lemmas.Result.{IfOk-weaker}
use Rattle.boogie_tree.specs.Expr as t
use Rattle.boogie_tree.specs.Whole.{expr_of}
use Rattle.boogie_tree.proofs.WholeLaws.{expr_of-At}
use Rattle.enc_expr.specs.Place.{number}
use Rattle.enc_expr.specs.Plain.{contained_by}
use Rattle.enc_expr.proofs.plains.content_of_part.Goals as goal

pub returns : goal.returns
returns c =
    let map = c.number.ensures ∙ ap (λ xs. number xs c.args.predicate) c.deref.ensures.value in
    IfOk-weaker c.contained_by.result _ _ (λ x same. same ∙ ap (contained_by (expr_of c.in_ok-amount.amount)) (expr_of-At c.number.result c.in_ok-index.index)
    ∙ (λ i. contained_by (c.in_ok-amount.ensures i) (t.At (map i) (c.in_ok-index.ensures i)))) c.contained_by.ensures
