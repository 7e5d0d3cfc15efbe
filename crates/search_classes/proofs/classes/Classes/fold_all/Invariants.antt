use Rattle.std.proofs.Common.{◌≤◌}
use Rattle.search_classes.proofs.classes.Classes.fold_all.Given as goal

abbrev pub invariant-loop-it : goal.invariant-loop-it
invariant-loop-it l = l.fuel.left ≤ l.fn.fuel.left
