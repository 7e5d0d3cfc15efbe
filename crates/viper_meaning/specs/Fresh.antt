-- What it means of a reference that a method knows nothing of it, said by values.
use Rattle.std.specs.Prelude.{◌≡◌, ◌≢◌, ℕ, false, true, Some, List, Contains, slice_get}
use Rattle.vb_value.specs.Fraction.{Fraction, is_none}
use Rattle.vb_value.specs.declared.values.Value.TheVariants as v
use Rattle.viper_state.specs.State.{value_at, mask_at}
use Rattle.viper_meaning.specs.Statements.{Configuration}

pub record KnowsNothingOf (r : ℕ) (refs : List ℕ) (c : Configuration) : Type 0 where
  pub not_null : r ≢ 0
  -- no variable in scope has it
  pub not_named : (x : ℕ) → Contains refs x → slice_get c.store x ≢ Some (v.Ref r)
  -- nothing is held of its fields
  pub not_held : (f : ℕ) (q : Fraction) → mask_at c.state f r ≡ Some q → is_none q ≡ true
  -- and no place of which something is held has it
  pub not_stored : (f k : ℕ) (q : Fraction) → mask_at c.state f k ≡ Some q → is_none q ≡ false → value_at c.state f k ≢ Some (v.Ref r)
