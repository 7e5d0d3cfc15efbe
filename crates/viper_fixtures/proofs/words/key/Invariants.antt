-- The arguments so far are within the bound.
use Rattle.vb_value.specs.Key.{IsWithinKey}
use Rattle.viper_fixtures.proofs.words.key.Given as goal

abbrev pub invariant-loop-part : goal.invariant-loop-part
invariant-loop-part l = IsWithinKey l.parts.items
