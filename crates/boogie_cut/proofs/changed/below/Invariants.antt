-- The numbers so far, and then those that are left.
use Rattle.std.proofs.Common.{◌≡◌, ◌++◌, drop, nat_lt}
use Rattle.std.specs.List.{filter}
use Rattle.boogie_cut.proofs.changed.below.Given as goal

abbrev pub invariant-loop-number : goal.invariant-loop-number
invariant-loop-number l = l.below.items ++ filter (λ i. nat_lt i l.n) (drop l.number-index l.numbers) ≡ filter (λ i. nat_lt i l.n) l.numbers
