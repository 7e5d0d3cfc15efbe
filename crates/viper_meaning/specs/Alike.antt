-- What runs from two stores have in common that agree on the visible variables.
use Rattle.std.specs.Prelude.{◌≡◌, ℕ, List, Contains, length, slice_get}
use Rattle.vb_base.specs.declared.labels.Label.{Label}
use Rattle.vb_base.specs.declared.places.Pos.{Pos}
use Rattle.viper_state.specs.Choice.{Choice}
use Rattle.viper_state.specs.Event.{Event}
use Rattle.viper_meaning.specs.Run.{Ran, ran, Goes, Fails, Blocked, Short, Over}
use Rattle.viper_meaning.specs.Statements.{Configuration}

-- the same events, the same end, and the same choices left. What they continue with is related.
pub data RanAlike {X Y : Type 0} (R : X → Y → Type 0) : Ran X → Ran Y → Type 0 where
  goes : {events : List Event} {x : X} {y : Y} {left : List Choice} → R x y → RanAlike R (ran events (Goes x) left) (ran events (Goes y) left)
  fails : {events : List Event} {l : Label} {left : List Choice} → RanAlike R (ran events (Fails l) left) (ran events (Fails l) left)
  blocked : {events : List Event} {left : List Choice} → RanAlike R (ran events Blocked left) (ran events Blocked left)
  short : {events : List Event} {left : List Choice} → RanAlike R (ran events Short left) (ran events Short left)
  over : {events : List Event} {at : Pos} {left : List Choice} → RanAlike R (ran events (Over at) left) (ran events (Over at) left)

-- the same state, and as many variables, of which these have the same values in both
pub record LooksAlike (visible : List ℕ) (c d : Configuration) : Type 0 where
  pub state : c.state ≡ d.state
  pub as_many : length c.store ≡ length d.store
  pub seen : (x : ℕ) → Contains visible x → slice_get c.store x ≡ slice_get d.store x
