-- The locals so far, and then those of the targets that are left.
use Rattle.std.proofs.Common.{◌≡◌, ◌++◌, map, drop}
use Rattle.enc_expr.specs.Place.{number}
use Rattle.enc_block.specs.View.{home_of}
use Rattle.enc_block.proofs.calls.add_targets.Given as goal

abbrev pub invariant-loop-target : goal.invariant-loop-target
invariant-loop-target l = l.locals.items ++ map (number (home_of l.home).vars) (drop l.target-index l.targets) ≡ l.fn.locals.items ++ map (number (home_of l.fn.home).vars) l.fn.targets
