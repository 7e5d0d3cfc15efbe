-- Each function of the cycle pays before it calls another one.
use Rattle.std.proofs.Common.{◌≤◌}
use Rattle.search_classes.proofs.classes.Classes.+entering.Given as goal

abbrev pub invariant-register-loop-it : goal.invariant-register-loop-it
invariant-register-loop-it l = l.fuel.left ≤ l.fn.fuel.left

abbrev pub decreases-register-loop-it : goal.decreases-register-loop-it
decreases-register-loop-it l = l.fuel.left

abbrev pub decreases-register : goal.decreases-register
decreases-register l = l.fuel.now.left

abbrev pub decreases-enter : goal.decreases-enter
decreases-enter l = l.fuel.now.left

abbrev pub decreases-fold_up : goal.decreases-fold_up
decreases-fold_up l = l.fuel.now.left

abbrev pub decreases-fold_product : goal.decreases-fold_product
decreases-fold_product l = l.fuel.now.left
