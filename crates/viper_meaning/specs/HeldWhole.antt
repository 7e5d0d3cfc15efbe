-- What can be held of places: of each at most the whole permission, and nothing of a field of null.
use Rattle.std.specs.Prelude.{◌≡◌, ℕ, true, false, All}
use Rattle.std.specs.Ordering.{nat_cmp}
use Rattle.sparse.specs.Map.{Map, IsReduced, get}
use Rattle.vb_value.specs.Fraction.{Fraction, is_above_one, is_none}
use Rattle.vb_value.specs.Value.{fraction_eq}
use Rattle.viper_state.specs.State.{State}

-- of one field, for each reference. The map is written in one way.
pub record CanBeMask (m : Map ℕ Fraction) : Type 0 where
  pub reduced : IsReduced nat_cmp fraction_eq m
  pub at_most_whole : (r : ℕ) → is_above_one (get nat_cmp m r) ≡ false
  pub nothing_of_null : is_none (get nat_cmp m 0) ≡ true

-- of every field
abbrev pub HoldsAtMostWhole : State → Type 0
HoldsAtMostWhole s = All CanBeMask s.mask
