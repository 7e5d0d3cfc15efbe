use Rattle.std.proofs.Common.{◌≡◌, replicate}
use Rattle.sparse.specs.Map.{empty}
use Rattle.vb_value.specs.Fraction.{none}
use Rattle.viper_state.proofs.copies.empty_maps.Given as goal

abbrev pub invariant-loop : goal.invariant-loop
invariant-loop g l = l.maps.items ≡ replicate l.counter (empty none)
