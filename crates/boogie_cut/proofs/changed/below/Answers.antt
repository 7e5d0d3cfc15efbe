use Rattle.std.proofs.Common.{◌∙◌, ◌+◌, ◌++◌, ℕ, Vec, ap, drop, get_or, nat_lt}
use Rattle.std.specs.List.{filter}
use Rattle.std.specs.declared.alloc.Global.{Global}
use Rattle.boogie_cut.proofs.ChangedLaws.{is_below, is_past, kept_next, left_out_next, kept_end}
use Rattle.boogie_cut.proofs.changed.below.Goals as goal
use Rattle.boogie_cut.proofs.changed.below.Goals.{then-number-n+in_ok-push, else-number-n}

pub loop-number-preserved : goal.loop-number-preserved
loop-number-preserved c =
    let test = λ (i : ℕ). nat_lt i c.args.n in
    let xs = c.args.numbers.now in
    let i = c.loop-number.number-index in
    let x = get_or xs i 0 in
    let old = c.loop-number.below.items in
    elim c.if-number-n.branch [
      | then-number-n+in_ok-push w ↦ ap (λ (v : Vec ℕ Global). v.items ++ filter test (drop (i + 1) xs)) w.below-is
          ∙ kept_next test xs i c.loop-number-test.true old _ c.loop-number.invariant (is_below x c.args.n w.if-number-n.true) w.push.new.self.items w.in_ok-push.ensures.items
      | else-number-n w ↦ ap (λ (v : Vec ℕ Global). v.items ++ filter test (drop (i + 1) xs)) w.below-is
          ∙ left_out_next test xs i c.loop-number-test.true old _ c.loop-number.invariant (is_past x c.args.n w.if-number-n.false)
    ]

pub returns : goal.returns
returns c = kept_end (λ i. nat_lt i c.args.n) c.args.numbers.now c.loop-number.number-index c.loop-number.below.items _ c.loop-number-test.false c.loop-number.invariant
