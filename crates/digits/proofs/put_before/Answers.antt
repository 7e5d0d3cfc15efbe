use Rattle.std.proofs.Common.{◌≡◌, ℕ, ◌-◌, ◌+◌, ◌%◌, ◌∷◌, ◌++◌, List, drop, length, arith, ap, sym, ◌∙◌}
use Rattle.std.proofs.lemmas.Fmt.{decimal_digit}
use Rattle.std.proofs.lemmas.List.{drop-set}
use Rattle.digits.proofs.Written.{pair, two_digits, length-two_digits, length-last_pair, pair_before}
use Rattle.digits.proofs.put_before.Goals as goal

pub overflow_sub-end : goal.overflow_sub-end
overflow_sub-end c = omega (arith, length-last_pair c.loop-rest.rest (omega arith) (omega arith))

pub loop-rest-preserved : goal.loop-rest-preserved
loop-rest-preserved c =
    let more = length-last_pair c.loop-rest.rest (omega arith) (omega arith) in
    let behind : c.loop-rest.end - 2 + 2 ≡ c.loop-rest.end = omega arith in
    record {
      inside = omega arith;
      room = omega arith;
      text = pair_before c.loop-rest.rest (drop c.loop-rest.end c.loop-rest.bytes) (drop (c.loop-rest.end - 2) c.put_pair.new.bytes) _ (omega arith) (omega arith)
          (c.put_pair.ensures ∙ ap (λ at. pair (c.loop-rest.rest % 100) ++ drop at c.loop-rest.bytes) behind) c.loop-rest.invariant.text;
    }

pub overflow_sub-end-then-rest-ge10 : goal.overflow_sub-end-then-rest-ge10
overflow_sub-end-then-rest-ge10 c = omega (arith, length-two_digits c.loop-rest.rest (omega arith) (omega arith))

pub overflow_sub-end-else-rest-ge10 : goal.overflow_sub-end-else-rest-ge10
overflow_sub-end-else-rest-ge10 c = omega (arith, ap length (decimal_digit c.loop-rest.rest (omega arith)))

pub returns-then-rest-ge10-clause-room : goal.returns-then-rest-ge10-clause-room
returns-then-rest-ge10-clause-room c = omega (arith, length-two_digits c.loop-rest.rest (omega arith) (omega arith))

pub returns-then-rest-ge10-clause-text : goal.returns-then-rest-ge10-clause-text
returns-then-rest-ge10-clause-text c =
    let two = length-two_digits c.loop-rest.rest (omega arith) (omega arith) in
    let behind : c.loop-rest.end - 2 + 2 ≡ c.loop-rest.end = omega arith in
    c.put_pair-then-rest-ge10.ensures
    ∙ ap (λ at. pair c.loop-rest.rest ++ drop at c.loop-rest.bytes) behind
    ∙ ap (λ (t : List ℕ). t ++ drop c.loop-rest.end c.loop-rest.bytes) (sym (two_digits c.loop-rest.rest (omega arith) (omega arith)))
    ∙ c.loop-rest.invariant.text

pub returns-else-rest-ge10-clause-room : goal.returns-else-rest-ge10-clause-room
returns-else-rest-ge10-clause-room c = omega (arith, ap length (decimal_digit c.loop-rest.rest (omega arith)))

pub returns-else-rest-ge10-clause-text : goal.returns-else-rest-ge10-clause-text
returns-else-rest-ge10-clause-text c =
    let one = ap length (decimal_digit c.loop-rest.rest (omega arith)) in
    let behind : c.loop-rest.end - 1 + 1 ≡ c.loop-rest.end = omega arith in
    drop-set c.loop-rest.bytes (c.loop-rest.end - 1) (48 + c.loop-rest.rest) (omega arith)
    ∙ ap (λ at. (48 + c.loop-rest.rest) ∷ drop at c.loop-rest.bytes) behind
    ∙ ap (λ (t : List ℕ). t ++ drop c.loop-rest.end c.loop-rest.bytes) (sym (decimal_digit c.loop-rest.rest (omega arith)))
    ∙ c.loop-rest.invariant.text
