-- Each polynomial is of one depth fewer than the one that it is a part of.
use Rattle.std.proofs.Common.{◌≤◌, ◌+◌, ◌*◌}
use Rattle.search_polynomials.proofs.polynomials.+polynomials.Given as goal

abbrev pub invariant-expand-loop-leaf : goal.invariant-expand-loop-leaf
invariant-expand-loop-leaf l = l.fuel.left ≤ l.fn.fuel.left

abbrev pub decreases-expand : goal.decreases-expand
decreases-expand l = 2 * l.depth

abbrev pub decreases-expand_leaf : goal.decreases-expand_leaf
decreases-expand_leaf l = 2 * l.depth + 1
