-- What permission is held to: a field of a reference, or an instance of a predicate. So a step on an amount is defined once.
use Rattle.std.specs.Prelude.{ℕ, Bool, false, ◌==◌, Option}
use Rattle.vb_value.specs.Fraction.{Fraction, is_above_one}
use Rattle.viper_state.specs.State.{Key, State, mask_at, amount_at, with_mask, with_amount}

pub data Resource : Type 0 where
  Place : ℕ → ℕ → Resource
  Instance : ℕ → Key → Resource

-- how much of it is held
abbrev pub held_at : State → Resource → Option Fraction
held_at s (Place field r) = mask_at s field r
held_at s (Instance p key) = amount_at s p key

-- the state in which so much of it is held
abbrev pub with_held : State → Resource → Fraction → State
with_held s (Place field r) q = with_mask s field r q
with_held s (Instance p key) q = with_amount s p key q

-- no permission is ever held to a field of null
abbrev pub is_null : Resource → Bool
is_null (Place field r) = r == 0
is_null (Instance p key) = false

-- a place is held at most once whole, and an instance any number of times
abbrev pub is_too_much : Resource → Fraction → Bool
is_too_much (Place field r) q = is_above_one q
is_too_much (Instance p key) q = false
