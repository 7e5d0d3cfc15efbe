-- Where a run begins, and what it continues with.
use Rattle.std.specs.Prelude.{List}
use Rattle.vb_base.specs.declared.places.Pos.{Pos}
use Rattle.vb_value.specs.declared.values.Value.{Value}
use Rattle.viper_state.specs.State as state
use Rattle.viper_state.specs.Choice.{Choice}
use Rattle.viper_state.specs.Event.{Event}

-- where a run of a unit begins: a value for each parameter and return, a heap and contents
pub record Opening : Type 0 where
  pub store : List Value
  pub memo : state.Memo

-- the choices that are left, and what was recorded so far
pub record Feed : Type 0 where
  pub left : List Choice
  pub events : List Event

-- what an expression is read in, besides the state: the values of the variables, the old state, and the place of the step
-- that is running
pub record Scene : Type 0 where
  pub store : List Value
  pub old : state.State
  pub at : Pos

-- the scene of a body or of clauses, whose variables have these values. The old state and the step stay.
abbrev pub with_variables : List Value → Scene → Scene
with_variables vs sc = record sc { store = vs }

-- the scene with another old state
abbrev pub with_old : state.State → Scene → Scene
with_old s sc = record sc { old = s }
