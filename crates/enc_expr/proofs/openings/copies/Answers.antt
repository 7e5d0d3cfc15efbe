use Rattle.std.proofs.Common.{◌∙◌, ◌+◌, drop, refl, ap, sym}
use Rattle.lemmas.proofs.Lists.{next_number}
use Rattle.boogie_tree.specs.Whole.{stmts_of}
use Rattle.enc_expr.specs.Code.{join}
use Rattle.enc_expr.specs.Encoding.{copies}
use Rattle.enc_expr.proofs.RunLaws.{join_skip}
use Rattle.enc_expr.proofs.BlockLaws.{added}
use Rattle.enc_expr.proofs.EmittedParts.{copy_step, dropped_all}
use Rattle.enc_expr.proofs.openings.copies.Goals as goal

pub loop-i-preserved : goal.loop-i-preserved
loop-i-preserved c =
    copy_step (drop c.loop-i.i c.args.own.now) (drop (c.loop-i.i + 1) c.args.own.now) c.args.from.now c.loop-i.i _ _ (stmts_of c.args.block.now.items) (stmts_of c.loop-i.block.items) (stmts_of c.add.new.items.items) _
    (next_number c.args.own.now c.loop-i.i c.loop-i-test.true) c.local_at-source.ensures (added c.loop-i.block.items _ c.in_ok-add.ensures refl) c.loop-i.invariant

pub returns : goal.returns
returns c =
    sym (c.loop-i.invariant ∙ ap (λ xs. join (stmts_of c.loop-i.block.items) (copies xs c.args.from.now c.loop-i.i)) (dropped_all c.loop-i.i c.args.own.now c.loop-i-test.false) ∙ join_skip (stmts_of c.loop-i.block.items))
