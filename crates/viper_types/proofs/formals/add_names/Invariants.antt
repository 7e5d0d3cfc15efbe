-- The names so far, and then those of the formals that are left.
use Rattle.std.proofs.Common.{◌≡◌, ◌++◌, drop, map}
use Rattle.viper_types.specs.Declaring.{name_of}
use Rattle.viper_types.proofs.formals.add_names.Given as goal

abbrev pub invariant-loop-formal : goal.invariant-loop-formal
invariant-loop-formal l = l.names.items ++ map name_of (drop l.formal-index l.formals) ≡ l.initial.names.items ++ map name_of l.formals
