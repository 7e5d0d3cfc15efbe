-- Where the statements of a unit find what they read and change: locals that stay the same from the first statement to the last.
-- All other locals are temporaries, each of which is set before it is read.
use Rattle.std.specs.Prelude.{◌≡◌, ◌≤◌, ◌⊎◌, ℕ, List, [], length, slice_get, Some, All}
use Rattle.vb_base.specs.declared.places.Pos.{Pos}
use Rattle.vb_value.specs.Bound.{Bound}
use Rattle.vb_value.specs.Layout.{Layout}
use Rattle.vb_value.specs.Value.{IsProperValue}
use Rattle.vb_value.specs.declared.values.Ty.{Ty}
use Rattle.viper_core.specs.Formed.{below}
use Rattle.viper_core.specs.Typing.{Context, Elsewhere}
use Rattle.viper_state.specs.Fits.{FitsStore}
use Rattle.viper_state.specs.State.{State, empty_state}
use Rattle.viper_meaning.specs.Statements.{Activation, Configuration}
use Rattle.boogie_tree.specs.Program.{BType}
use Rattle.enc_expr.specs.Place.{Maps, Place, number, IsAnySpot, HasSizes, IsLocalOf, AreApart}
use Rattle.moves.specs.Scalars.{variable_type}
use Rattle.enc_expr.specs.Kinds.{Kinds}
use Rattle.enc_expr.specs.Coupling.{Env, HasMaps, HasHeld, HasVariables, IsSound, AreLocals}
use Rattle.enc_assert.specs.Held.{IsHeldLocalOf}

pub record Home : Type 0 where
  -- the local of each variable
  pub vars : List ℕ
  -- the present state
  pub now : Maps
  -- the old state
  pub old : Maps
  -- masks and amounts in which nothing is held; its heaps and contents are never looked at
  pub nothing : Maps

-- the place of the step that is running
abbrev pub place : Home → Pos → Place
place h at = record { vars = h.vars; now = h.now; old = h.old; at = at }

-- the types that code is written by
abbrev pub kinds_of : Activation → Kinds
kinds_of k = record { vars = k.vars; layout = k.program.layout }

-- where all variables are visible: a part that is typed in its scope is typed here too
abbrev pub whole : Activation → Context
whole k = record { program = k.program; vars = k.vars; visible = below (length k.vars); site = Elsewhere }

-- ---- what holds of these locals throughout

-- Locals of these types form a layout: variables have locals of their types, and no two of them the same; each map of the present and of
-- the old state has a local of its own, which is none of the masks and amounts in which nothing is held.
pub record IsHome (ts : List BType) (k : Activation) (h : Home) : Type 0 where
  pub as_many : length h.vars ≡ length k.vars
  pub types : (x : ℕ) (u : Ty) → slice_get k.vars x ≡ Some u → slice_get ts (number h.vars x) ≡ Some (variable_type u)
  pub vars : (x y : ℕ) (u w : Ty) → slice_get k.vars x ≡ Some u → slice_get k.vars y ≡ Some w → number h.vars x ≡ number h.vars y → x ≡ y
  pub sizes : HasSizes k.program.layout h.now
  pub old_sizes : HasSizes k.program.layout h.old
  pub now : AreApart IsAnySpot (λ x. IsLocalOf k.program.layout h.old x ⊎ IsHeldLocalOf k.program.layout h.nothing x) k.program.layout h.now
  pub old : AreApart IsAnySpot (IsHeldLocalOf k.program.layout h.nothing) k.program.layout h.old

-- ---- a configuration in an environment

-- no memo is looked at where only masks and amounts count
abbrev pub nothing_held : Layout → State
nothing_held layout = empty_state layout (record { heap = []; content = [] })

-- The first n locals hold the configuration, the old state, and masks and amounts in which nothing is held. Of locals from n on
-- nothing is said.
pub record IsAt (ts : List BType) (b : Bound) (k : Activation) (h : Home) (n : ℕ) (d : Configuration) (E : Env) : Type 0 where
  pub now : HasMaps k.program.layout n h.now d.state E
  pub old : HasMaps k.program.layout n h.old k.old E
  pub vars : HasVariables (whole k) n h.vars d.store E
  pub nothing : HasHeld k.program.layout n h.nothing (nothing_held k.program.layout) E
  pub sound : IsSound b k.program.layout d.state
  pub old_sound : IsSound b k.program.layout k.old
  pub store : All (IsProperValue b) d.store
  pub fits : FitsStore k.vars d.store
  pub full : length E ≡ length ts

-- from n on there is room for locals of these types
pub record HasRoom (ts : List BType) (n : ℕ) (us : List BType) : Type 0 where
  pub low : n ≤ length ts
  pub locals : AreLocals ts n us
