use Rattle.std.proofs.Common.{◌≡◌, ℕ, ◌-◌, ◌+◌, ◌∷◌, ◌++◌, List, drop, slice_index, arith, ap, sym, ◌∙◌, append-nil}
use Rattle.std.proofs.lemmas.Fmt.{length-decimal-le}
use Rattle.std.specs.Fmt.{decimal}
use Rattle.digits.proofs.Pairs.{two_bytes, two_written}
use Rattle.digits.proofs.Digits.behind.Goals as goal

pub put_before-start-requires-clause-room : goal.put_before-start-requires-clause-room
put_before-start-requires-clause-room c = omega (arith, length-decimal-le 20 c.args.number (omega arith) (omega arith) c.ranges.number.fits)

pub overflow_sub-start : goal.overflow_sub-start
overflow_sub-start c = omega (arith, length-decimal-le 20 c.args.number (omega arith) (omega arith) c.ranges.number.fits)

pub returns : goal.returns
returns c =
    let short = length-decimal-le 20 c.args.number (omega arith) (omega arith) c.ranges.number.fits in
    let w = c.put_before-start in
    let start : ℕ = w.result - 2 in
    let behind : start + 2 ≡ w.result = omega arith in
    let text : drop w.result w.new.bytes ≡ decimal c.args.number = w.ensures.text ∙ append-nil (decimal c.args.number) in
    two_written w.new.bytes start (slice_index c.args.front.now 0) (slice_index c.args.front.now 1) (omega arith)
    ∙ ap (λ (t : List ℕ). slice_index c.args.front.now 0 ∷ slice_index c.args.front.now 1 ∷ t) (ap (λ at. drop at w.new.bytes) behind ∙ text)
    ∙ ap (λ (t : List ℕ). t ++ decimal c.args.number) (sym (two_bytes c.args.front.now (omega arith)))
