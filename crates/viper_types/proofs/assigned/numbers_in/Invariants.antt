-- The numbers so far, and then those of the targets that are left.
use Rattle.std.proofs.Common.{◌≡◌, ◌++◌, drop, map}
use Rattle.viper_types.specs.Answers.{target_of}
use Rattle.viper_types.specs.Stepping.{numbers_in}
use Rattle.viper_types.proofs.assigned.numbers_in.Given as goal

abbrev pub invariant-loop-target : goal.invariant-loop-target
invariant-loop-target l = l.numbers.items ++ numbers_in (map target_of (drop l.target-index l.targets)) ≡ numbers_in (map target_of l.targets)
