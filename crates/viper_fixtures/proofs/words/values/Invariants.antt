-- The values so far are within the bound.
use Rattle.std.proofs.Common.{All}
use Rattle.vb_value.specs.Value.{IsWithinValue}
use Rattle.viper_fixtures.proofs.words.values.Given as goal

abbrev pub invariant-loop-word : goal.invariant-loop-word
invariant-loop-word l = All IsWithinValue l.values.items
