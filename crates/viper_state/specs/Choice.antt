-- What a run takes from outside.
use Rattle.std.specs.Prelude.{ℕ, Bool}
use Rattle.vb_value.specs.Fraction.{Fraction}
use Rattle.vb_value.specs.declared.values.Value.{Value}
use Rattle.viper_state.specs.State as state

-- one value that a run takes from outside
pub data Choice : Type 0 where
  -- which of two ways it goes
  Branch : Bool → Choice
  -- the new value of a variable or a place
  Took : Value → Choice
  -- how much a `wildcard` is
  Amount : Fraction → Choice
  -- the reference of a new object
  Fresh : ℕ → Choice
  -- a heap and contents for what is forgotten
  Filled : state.Memo → Choice
