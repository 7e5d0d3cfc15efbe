-- What a run needs, so that it can be computed. Nothing is said of types.
use Rattle.std.specs.Prelude.{All}
use Rattle.vb_value.specs.Layout.{Layout}
use Rattle.vb_value.specs.Value.{IsWithinValue}
use Rattle.viper_core.specs.Program.{Program}
use Rattle.viper_state.specs.Fits.{FitsMemo, HasMaps, FitsChoice}
use Rattle.viper_state.specs.Run.{Feed, Opening}
use Rattle.viper_state.specs.State.{State}
use Rattle.viper_state.specs.Within.{IsWithinState, IsWithinChoice, IsWithinOpening}
use Rattle.viper_meaning.specs.StatementLiterals.{IsWithinProgram}
use Rattle.viper_meaning.specs.Statements.{Activation, Configuration}

-- every number is within the bound, and the state and the choices that are left have the maps of the program
pub record CanGoOn (layout : Layout) (s : State) (f : Feed) : Type 0 where
  pub within : IsWithinState s
  pub maps : HasMaps layout s
  pub choices : All IsWithinChoice f.left
  pub fit : All (FitsChoice layout) f.left

pub record IsReady (k : Activation) (c : Configuration) (f : Feed) : Type 0 where
  pub program : IsWithinProgram k.program
  pub old : IsWithinState k.old
  pub store : All IsWithinValue c.store
  pub state : CanGoOn k.program.layout c.state f

-- the same where a unit begins
pub record CanBegin (program : Program) (o : Opening) (f : Feed) : Type 0 where
  pub within : IsWithinOpening o
  pub maps : FitsMemo program.layout o.memo
  pub choices : All IsWithinChoice f.left
  pub fit : All (FitsChoice program.layout) f.left
