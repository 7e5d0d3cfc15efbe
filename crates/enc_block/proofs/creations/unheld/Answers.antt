use Rattle.std.proofs.Common.{◌≡◌, ◌∙◌, ◌+◌, List, drop, refl, sym, ap, subst}
use Rattle.vb_value.specs.declared.values.Ty.{Ty}
use Rattle.boogie_tree.specs.Expr as t
use Rattle.boogie_tree.specs.Stmt as s
use Rattle.boogie_tree.specs.Whole.{stmts_of}
use Rattle.boogie_tree.specs.declared.exprs.BOp.TheVariants as op
use Rattle.enc_expr.specs.Code.{join}
use Rattle.enc_expr.specs.Pieces.{at_one, zero_real}
use Rattle.enc_expr.specs.Place.{number, maps_of}
use Rattle.enc_expr.proofs.BlockLaws.{added}
use Rattle.enc_expr.proofs.EmittedParts.{next_of, dropped_all}
use Rattle.enc_expr.proofs.RunLaws.{join_skip}
use Rattle.enc_block.specs.Encoding.{unheld_code}
use Rattle.enc_block.proofs.EmittedCalls.{one_more}
use Rattle.enc_block.proofs.creations.unheld.Goals as goal

pub loop-i-preserved : goal.loop-i-preserved
loop-i-preserved c =
    let now = maps_of c.args.now.now in let r = c.args.reference in let i = c.loop-i.i in let fields = c.args.fields.now in
    one_more (stmts_of c.loop-i.block.items) (unheld_code now r (drop (i + 1) fields) (i + 1)) _ (added c.loop-i.block.items _ c.in_ok-add.ensures refl)
    (ap s.Assume (c.in_ok-none.ensures ∙ ap (λ x. t.Bin op.Eq x zero_real) (c.in_ok-held.ensures ∙ ap (λ m. at_one m (t.Var r)) (c.local_at.ensures ∙ ap (λ xs. number xs i) c.deref.ensures.value))))
    (subst (λ (us : List Ty). join (stmts_of c.loop-i.block.items) (unheld_code now r us i) ≡ join (stmts_of c.args.block.now.items) (unheld_code now r fields 0)) (next_of fields i c.loop-i-test.true).split c.loop-i.invariant)

pub returns : goal.returns
returns c =
    sym (join_skip (stmts_of c.loop-i.block.items)) ∙ ap (λ (us : List Ty). join (stmts_of c.loop-i.block.items) (unheld_code (maps_of c.args.now.now) c.args.reference us c.loop-i.i)) (sym (dropped_all c.loop-i.i c.args.fields.now c.loop-i-test.false))
    ∙ c.loop-i.invariant
