-- How evaluating ends, and the ways to continue.
use Rattle.std.specs.Prelude.{Bool, true, false, Option, Some, None}
use Rattle.vb_value.specs.Bound.{Bound, Unbounded, Bounded}

pub data End (X : Type 0) : Type 0 where
  Is : X → End X
  -- a number or a content leaves the bound
  Over : End X
  -- an operand has the wrong type
  Wrong : End X

-- continues with the value, or ends
abbrev pub then_with : {X Y : Type 0} → End X → (X → End Y) → End Y
then_with (Is x) go = go x
then_with Over go = Over
then_with Wrong go = Wrong

-- what there is. In a typed program there always is.
abbrev pub found : {X : Type 0} → Option X → End X
found (Some x) = Is x
found None = Wrong

-- a value whose computation fits
abbrev pub fitting : {X : Type 0} → Bound → Bool → X → End X
fitting Unbounded fits x = Is x
fitting Bounded true x = Is x
fitting Bounded false x = Over

-- it leaves the bound, or has a value with the property
pub data Keeps {X : Type 0} (P : X → Type 0) : End X → Type 0 where
  value : {x : X} → P x → Keeps P (Is x)
  over : Keeps P Over
