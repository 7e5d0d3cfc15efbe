-- The first misfit is among the targets that are left.
use Rattle.std.proofs.Common.{◌≡◌, drop, map}
use Rattle.viper_types.specs.Answers.{target_of}
use Rattle.viper_types.specs.Stepping.{mistarget}
use Rattle.viper_types.proofs.assigned.mistarget.Given as goal

abbrev pub invariant-loop-i : goal.invariant-loop-i
invariant-loop-i l = mistarget (map target_of (drop l.i l.targets)) (drop l.i l.returns) ≡ mistarget (map target_of l.targets) l.returns
