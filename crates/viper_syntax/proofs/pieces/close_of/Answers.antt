use Rattle.std.proofs.Common.{◌≡◌, ◌∙◌, sym, subst, arith, get_or, Some, eqb}
use Rattle.std.specs.Prelude.{slice_get, IsTrue}
use Rattle.viper_syntax.proofs.LongestLaws.{star_at, close_within, no_close_more, false_true}
use Rattle.viper_syntax.proofs.pieces.close_of.Goals as goal
use Rattle.viper_syntax.proofs.pieces.close_of.Goals.{else-star-via-then-star+else-byte-eq47, else-star-via-else-star}

pub loop-i-preserved : goal.loop-i-preserved
loop-i-preserved c = record {
  some = λ h. omega arith;
  star = λ k e. let same : c.loop-i.i ≡ k = omega arith in
      subst (λ n. (IsTrue (eqb (get_or c.args.text.now c.loop-i.i 0) 42) → slice_get c.args.text.now n ≡ Some 42) × (slice_get c.args.text.now n ≡ Some 42 → IsTrue (eqb (get_or c.args.text.now c.loop-i.i 0) 42)))
      same (star_at c.args.text.now c.loop-i.i 42 c.loop-i-test.true);
  none = no_close_more c.args.text.now c.loop-i.i c.loop-i.star c.loop-i.invariant.star c.loop-i.invariant.none (elim c.else-star.branch [
    | else-star-via-then-star+else-byte-eq47 w ↦ λ h. w.if-byte-eq47.false
    | else-star-via-else-star w ↦ λ h. absurd (false_true (sym w.if-star.false ∙ h))
  ]);
}

pub returns : goal.returns
returns c i closes = c.loop-i.invariant.none i (omega (arith, close_within c.args.text.now i closes)) closes
