-- The keys are the same all together, and those that are listed get fewer.
use Rattle.std.proofs.Common.{◌≡◌, ◌++◌, length}
use Rattle.sorted_set.proofs.settle.Given as goal

abbrev pub invariant-loop-key : goal.invariant-loop-key
invariant-loop-key g l = l.listed.items ++ l.settled.keys ≡ l.fn.listed.items ++ l.fn.settled.keys

abbrev pub decreases-loop-key : goal.decreases-loop-key
decreases-loop-key g l = length l.listed.items
