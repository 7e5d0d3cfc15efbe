-- What a run records.
use Rattle.std.specs.Prelude.{ℕ, Bool}
use Rattle.vb_value.specs.Fraction.{Fraction}
use Rattle.vb_value.specs.Content.{Content}
use Rattle.vb_value.specs.declared.values.Value.{Value}
use Rattle.viper_state.specs.State as state

-- one step of a run for which its translation takes choices
pub data Event : Type 0 where
  Branch : Bool → Event
  Took : Value → Event
  Wild : Fraction → Event
  Fresh : ℕ → Event
  -- a heap and contents as they then are
  Whole : state.Memo → Event
  -- an instance was opened at a conjunction, with these parts of its content
  Split : Content → Content → Event
  -- an instance was opened at a place, with this value
  Leaf : Value → Event
