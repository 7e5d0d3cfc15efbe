use Rattle.std.proofs.Common.{◌≡◌, ◌++◌, length}
use Rattle.boogie_loops_text.specs.Bound.{bound_in}
use Rattle.boogie_loops_text.proofs.bound.push_bound.Given as goal

abbrev pub invariant-loop-first : goal.invariant-loop-first
invariant-loop-first l = l.bound.items ++ bound_in l.left ≡ l.fn.bound.items ++ bound_in l.fn.tokens

abbrev pub decreases-loop-first : goal.decreases-loop-first
decreases-loop-first l = length l.left
