-- The map at its one index.
use Rattle.std.proofs.Common.{◌∙◌, ap}
use Rattle.boogie_tree.specs.Expr as t
use Rattle.boogie_tree.specs.Whole.{expr_of, exprs_of}
use Rattle.boogie_tree.proofs.WholeLaws.{expr_of-At}
use Rattle.enc_expr.specs.Place.{number, maps_of}
use Rattle.enc_expr.proofs.plains.heap_at.Goals as goal

pub returns : goal.returns
returns c =
    let heap = c.number.ensures ∙ ap (λ xs. number xs c.args.field) c.deref.ensures.value in
    expr_of-At c.number.result c.in_ok-index.index ∙ (λ i. t.At (heap i) (exprs_of (c.in_ok-index.ensures.items i)))
    ∙ ap (λ x. t.At (number (maps_of c.args.reading.now.now).heap c.args.field) (t.more (expr_of x) t.none)) c.into_inner.ensures
