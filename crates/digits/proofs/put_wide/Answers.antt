use Rattle.std.proofs.Common.{◌≡◌, ℕ, ◌-◌, ◌+◌, ◌%◌, ◌++◌, List, drop, arith, ap, ◌∙◌, append-nil}
use Rattle.std.proofs.lemmas.Fmt.{length-decimal-le_wide}
use Rattle.std.proofs.lemmas.List.{drop_all}
use Rattle.std.specs.Fmt.{decimal}
use Rattle.digits.proofs.Written.{pair, length-last_pair, pair_before}
use Rattle.digits.proofs.put_wide.Goals as goal

pub loop-rest-init : goal.loop-rest-init
loop-rest-init c = record {
  inside = omega arith;
  less = omega arith;
  room = omega arith;
  text = ap (λ (t : List ℕ). decimal c.args.number ++ t) (drop_all 40 c.args.bytes.now (omega arith)) ∙ append-nil (decimal c.args.number);
}

pub overflow_sub-end : goal.overflow_sub-end
overflow_sub-end c =
    let short = length-decimal-le_wide 39 c.args.number (omega arith) (omega arith) (omega arith) in
    omega (arith, length-last_pair c.loop-rest.rest (omega arith) (omega arith))

pub loop-rest-preserved : goal.loop-rest-preserved
loop-rest-preserved c =
    let short = length-decimal-le_wide 39 c.args.number (omega arith) (omega arith) (omega arith) in
    let more = length-last_pair c.loop-rest.rest (omega arith) (omega arith) in
    let behind : c.loop-rest.end - 2 + 2 ≡ c.loop-rest.end = omega arith in
    record {
      inside = omega arith;
      less = omega arith;
      room = omega arith;
      text = pair_before c.loop-rest.rest (drop c.loop-rest.end c.loop-rest.bytes) (drop (c.loop-rest.end - 2) c.put_pair.new.bytes) _ (omega arith) (omega arith)
          (c.put_pair.ensures ∙ ap (λ at. pair (c.loop-rest.rest % 100) ++ drop at c.loop-rest.bytes) behind) c.loop-rest.invariant.text;
    }

pub put_before-requires-clause-room : goal.put_before-requires-clause-room
put_before-requires-clause-room c = omega (arith, length-decimal-le_wide 39 c.args.number (omega arith) (omega arith) (omega arith))

pub returns-clause-room : goal.returns-clause-room
returns-clause-room c =
    let short = length-decimal-le_wide 39 c.args.number (omega arith) (omega arith) (omega arith) in
    (omega arith, omega arith)
