-- Two states of which one holds no more than the other, and how the same thing ends in both.
use Rattle.std.specs.Prelude.{◌≡◌, ℕ, false, Some, Contains, IsTrue, slice_get}
use Rattle.std.specs.Ordering.{is_lt}
use Rattle.vb_base.specs.declared.labels.Label.{Label}
use Rattle.vb_value.specs.Fraction.{Fraction, IsReduced, sum, order, is_negative, is_none}
use Rattle.vb_value.specs.Layout.{Layout}
use Rattle.viper_core.specs.Typing.{Context, allows_old}
use Rattle.viper_state.specs.Fits.{FitsState, FitsScene}
use Rattle.viper_state.specs.Run.{Scene}
use Rattle.viper_state.specs.State.{Key, State, value_at, content_at}
use Rattle.viper_state.specs.Within.{IsNonnegative}
use Rattle.viper_meaning.specs.Ends.{End, Is, Fails, Blocked}
use Rattle.viper_meaning.specs.Resource.{Resource, Place, Instance, held_at}

-- how much others hold of each resource: an amount in lowest terms that is not negative
pub record Besides : Type 0 where
  pub held : Resource → Fraction
  pub reduced : (x : Resource) → IsReduced (held x)
  pub not_negative : (x : Resource) → is_negative (held x) ≡ false

-- The two states fit, hold nothing negative, and have the same values and contents. What the first holds of a resource and what
-- the rest holds are together at most what the second holds.
pub record HoldsBeside (layout : Layout) (rest : Besides) (s w : State) : Type 0 where
  pub less_fits : FitsState layout s
  pub more_fits : FitsState layout w
  pub less_signs : IsNonnegative s
  pub more_signs : IsNonnegative w
  pub values : (f r : ℕ) → value_at s f r ≡ value_at w f r
  pub contents : (p : ℕ) (k : Key) → content_at s p k ≡ content_at w p k
  pub held : (x : Resource) (p q : Fraction) → held_at s x ≡ Some p → held_at w x ≡ Some q → is_lt (order q (sum (rest.held x) p)) ≡ false

-- where the rest holds something, the second state has what it had before
pub record KeepsOfRest (rest : Besides) (before now : State) : Type 0 where
  pub values : (f r : ℕ) → is_none (rest.held (Place f r)) ≡ false → value_at now f r ≡ value_at before f r
  pub contents : (p : ℕ) (k : Key) → is_none (rest.held (Instance p k)) ≡ false → content_at now p k ≡ content_at before p k

-- Two scenes in which the same is said in a context: their visible variables have the same values, and where `old` may be said,
-- the old states lie as the states do. The places of their steps may differ.
pub record AreScenes (c : Context) (rest : Besides) (sc sd : Scene) : Type 0 where
  pub less_fits : FitsScene c.program.layout c.vars sc
  pub seen : (x : ℕ) → Contains c.visible x → slice_get sc.store x ≡ slice_get sd.store x
  pub old : IsTrue (allows_old c.site) → HoldsBeside c.program.layout rest sc.old sd.old

-- How it ends with less permission, and with more: with less it fails, or both have related values, or with more it is blocked.
pub data EndsWithMore {X Y : Type 0} (R : X → Y → Type 0) : End X → End Y → Type 0 where
  fails : {l : Label} {f : End Y} → EndsWithMore R (Fails l) f
  values : {x : X} {y : Y} → R x y → EndsWithMore R (Is x) (Is y)
  blocks : {e : End X} → EndsWithMore R e Blocked
