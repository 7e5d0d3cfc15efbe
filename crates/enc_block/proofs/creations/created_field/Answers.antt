-- The value, the heap, and the mask.
use Rattle.std.proofs.Common.{◌∙◌, ap}
use Rattle.boogie_tree.specs.Expr as t
use Rattle.boogie_tree.specs.Stmt as s
use Rattle.boogie_tree.specs.Whole.{stmts_of}
use Rattle.enc_expr.specs.Code.{join}
use Rattle.enc_expr.specs.Pieces.{one, one_real}
use Rattle.enc_expr.specs.Place.{number}
use Rattle.enc_expr.proofs.BlockLaws.{added, then_added}
use Rattle.enc_block.specs.View.{home_of}
use Rattle.enc_block.proofs.creations.created_field.Goals as goal

pub returns : goal.returns
returns c =
    let home = home_of c.args.home.now in let at = t.more (t.Var c.args.reference) t.none in
    then_added (stmts_of c.in_ok-block.block.items) _ _
    (added c.in_ok-block.block.items _ c.in_ok-add.ensures (λ i. s.Put ((c.number-heap.ensures ∙ ap (λ xs. number xs c.args.field) c.deref.ensures.value) i) (c.in_ok-exprs.ensures i) (t.Var c.args.value)))
    (added c.add.new.items.items _ c.in_ok-add-2.ensures (λ i. s.Put ((c.number-mask.ensures ∙ ap (λ xs. number xs c.args.field) c.deref-2.ensures.value) i) (c.in_ok-exprs-2.ensures i) one_real))
    ∙ ap (λ xs. join (stmts_of xs) (s.first (s.Put (number home.now.heap c.args.field) at (t.Var c.args.value)) (one (s.Put (number home.now.mask c.args.field) at one_real)))) c.in_ok-block.ensures.items
