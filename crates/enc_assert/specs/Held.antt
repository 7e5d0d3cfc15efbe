-- Locals that hold permission: masks and amounts. Producing changes those of the present state, and consuming those of another
-- one, from which permission is taken.
use Rattle.std.specs.Prelude.{◌<◌, ◌⊎◌, ℕ, length}
use Rattle.vb_value.specs.Bound.{Bound}
use Rattle.vb_value.specs.Layout.{Layout}
use Rattle.viper_core.specs.Typing.{Context}
use Rattle.viper_state.specs.State.{State}
use Rattle.viper_state.specs.Run.{Scene}
use Rattle.enc_expr.specs.Place.{Maps, Place, IsHeld, IsFree, IsLocalAt, IsLocalOf, AreApart}
use Rattle.enc_expr.specs.Coupling.{Env, HasMaps, IsSound, IsCoupled}
use Rattle.enc_expr.specs.Alike.{KeptBut}

-- it is the local of a mask, or of amounts, of the state
abbrev pub IsHeldLocalOf : Layout → Maps → ℕ → Type 0
IsHeldLocalOf = IsLocalAt IsHeld

-- what is produced goes to the masks and amounts of the present state, which are no locals of the old one
abbrev pub IsGrowing : Context → Place → Type 0
IsGrowing c p = AreApart IsHeld (IsLocalOf c.program.layout p.old) c.program.layout p.now

-- it is the local of a map of the present state, or of the old one
abbrev pub IsRead : Context → Place → ℕ → Type 0
IsRead c p x = IsLocalOf c.program.layout p.now x ⊎ IsLocalOf c.program.layout p.old x

-- what is consumed is taken from masks and amounts that are no locals of the state that is read, nor of the old one
abbrev pub IsShrinking : Context → Place → Maps → Type 0
IsShrinking c p left = AreApart IsHeld (IsRead c p) c.program.layout left

-- ---- afterwards

-- all is coupled again, with the state to which permission came. Nothing but its masks and amounts, and new locals, was changed.
pub record IsProduced (b : Bound) (c : Context) (n m : ℕ) (p : Place) (sc : Scene) (E : Env) (s : State) (F : Env) : Type 0 where
  pub kept : KeptBut (IsHeldLocalOf c.program.layout p.now) n E F
  pub coupled : IsCoupled b c m p s sc F

-- the maps hold the state that is left. Nothing but its masks and amounts, and new locals, was changed.
pub record IsConsumed (b : Bound) (c : Context) (n m : ℕ) (left : Maps) (E : Env) (s : State) (F : Env) : Type 0 where
  pub kept : KeptBut (IsHeldLocalOf c.program.layout left) n E F
  pub maps : HasMaps c.program.layout m left s F
  pub sound : IsSound b c.program.layout s

-- ---- forgetting

-- it is the local of a heap, or of contents, of the state
abbrev pub IsFreeLocalOf : Layout → Maps → ℕ → Type 0
IsFreeLocalOf = IsLocalAt IsFree

-- what is forgotten goes from the heaps and contents of the present state, which are no locals of the old one
abbrev pub IsForgetting : Context → Place → Type 0
IsForgetting c p = AreApart IsFree (IsLocalOf c.program.layout p.old) c.program.layout p.now

-- all is coupled again, with the state that is left. Nothing but its heaps and contents, and new locals, was changed.
pub record IsForgotten (b : Bound) (c : Context) (n m : ℕ) (p : Place) (sc : Scene) (E : Env) (s : State) (F : Env) : Type 0 where
  pub kept : KeptBut (IsFreeLocalOf c.program.layout p.now) n E F
  pub coupled : IsCoupled b c m p s sc F

-- the program has a field or a predicate
pub data HasPlaces (layout : Layout) : Type 0 where
  field : 0 < length layout.fields → HasPlaces layout
  predicate : 0 < length layout.keys → HasPlaces layout
