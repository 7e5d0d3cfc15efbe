use Rattle.std.proofs.Common.{◌≡◌, ◌∙◌, ◌+◌, List, drop, sym, ap, subst}
use Rattle.vb_value.specs.declared.values.Ty.{Ty}
use Rattle.boogie_tree.specs.Whole.{stmts_of}
use Rattle.enc_expr.specs.Code.{join}
use Rattle.enc_expr.specs.Place.{maps_of}
use Rattle.enc_expr.proofs.EmittedParts.{next_of, next_is, dropped_all}
use Rattle.enc_expr.proofs.RunLaws.{join_skip}
use Rattle.enc_block.specs.Encoding.{unstored_at, unstored_code}
use Rattle.enc_block.proofs.EmittedCalls.{block_more}
use Rattle.enc_block.proofs.creations.unstored.Goals as goal

pub loop-i-preserved : goal.loop-i-preserved
loop-i-preserved c =
    let now = maps_of c.args.now.now in let r = c.args.reference in let i = c.loop-i.i in let fields = c.args.fields.now in let next = next_of fields i c.loop-i-test.true in
    block_more (stmts_of c.loop-i.block.items) (unstored_code now r (drop (i + 1) fields) (i + 1)) (unstored_at next.item now r i)
    (c.in_ok-unstored_at.ensures ∙ ap (λ u. join (stmts_of c.loop-i.block.items) (unstored_at u now r i)) (next_is fields i c.loop-i-test.true _))
    (subst (λ (us : List Ty). join (stmts_of c.loop-i.block.items) (unstored_code now r us i) ≡ join (stmts_of c.args.block.now.items) (unstored_code now r fields 0)) next.split c.loop-i.invariant)

pub returns : goal.returns
returns c =
    sym (join_skip (stmts_of c.loop-i.block.items)) ∙ ap (λ (us : List Ty). join (stmts_of c.loop-i.block.items) (unstored_code (maps_of c.args.now.now) c.args.reference us c.loop-i.i)) (sym (dropped_all c.loop-i.i c.args.fields.now c.loop-i-test.false))
    ∙ c.loop-i.invariant
