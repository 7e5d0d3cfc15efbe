use Rattle.std.proofs.Common.{◌∙◌, Some, inl, inr, get_or, refl, sym, ap}
use Rattle.cert_rules.specs.Reasons.{yes}
use Rattle.cert_rules.proofs.RefuteLaws.{remaining_more, literals_same, not_apart}
use Rattle.cert_rules.proofs.refuting.remaining.Goals as goal
use Rattle.cert_rules.proofs.refuting.remaining.Goals.{then-not-is_false+in-None, then-not-is_false+in-Some+else-ne, else-not-is_false}

pub loop-literal-preserved : goal.loop-literal-preserved
loop-literal-preserved c =
    let literal = get_or c.args.step.now c.loop-literal.literal-index (yes 0) in
    let more = remaining_more c.args.known.now c.args.step.now c.loop-literal.literal-index c.loop-literal.left c.if-not-is_false.left c.loop-literal-test.true c.loop-literal.invariant in
    elim c.if-not-is_false.branch [
      | then-not-is_false+in-None w ↦ more (inl w.in-None.is) (inr w.left-is)
      | then-not-is_false+in-Some+else-ne w ↦
          let same = literals_same w.in-Some.other literal (not_apart _ _ w.ne.ensures w.if-ne.false) in
          more (inr (w.left-is ∙ sym w.in-Some.is)) (inr (w.left-is ∙ ap Some same))
      | else-not-is_false w ↦ more (inr w.left-is) (inl (w.if-not-is_false.ensures.0 refl))
    ]
