-- The key of all values is that of the parts so far and then of the values that are left.
use Rattle.std.proofs.Common.{◌≡◌, ◌++◌, drop}
use Rattle.std.specs.Option.{option_map}
use Rattle.viper_meaning.specs.Places.{key_of}
use Rattle.viper_eval.proofs.places.key_of.Given as goal

abbrev pub invariant-loop-value : goal.invariant-loop-value
invariant-loop-value l = key_of l.values ≡ option_map (λ rest. l.parts.items ++ rest) (key_of (drop l.value-index l.values))
