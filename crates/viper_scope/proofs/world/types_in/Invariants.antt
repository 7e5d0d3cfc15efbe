-- The types so far, and then those of the formals that are left.
use Rattle.std.proofs.Common.{◌≡◌, ◌++◌, drop, map}
use Rattle.viper_scope.specs.Types.{declared_type}
use Rattle.viper_scope.proofs.world.types_in.Given as goal

abbrev pub invariant-loop-formal : goal.invariant-loop-formal
invariant-loop-formal l = l.types.items ++ map declared_type (drop l.formal-index l.formals) ≡ map declared_type l.formals
