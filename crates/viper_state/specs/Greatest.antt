-- How great the references are that stand in heaps as values. A state knows a number that none of those in its own heaps is
-- greater than.
use Rattle.std.specs.Prelude.{ℕ, ◌≤◌, List, All}
use Rattle.sparse.specs.Map.{Map}
use Rattle.vb_value.specs.declared.values.Value.{Value}
use Rattle.vb_value.specs.declared.values.Value.TheVariants.{Int, Bool as Truth, Ref, Perm}
use Rattle.viper_state.specs.Within.{HasValues}

-- the reference that a value is, and 0 of any other value
abbrev pub reference_in : Value → ℕ
reference_in (Int a) = 0
reference_in (Truth a) = 0
reference_in (Ref a) = a
reference_in (Perm a) = 0

-- a value is no reference that is greater than this
abbrev pub IsAtMost : ℕ → Value → Type 0
IsAtMost greatest v = reference_in v ≤ greatest

-- so is the default of each heap, and every other value of it: no heap has a greater reference as a value
abbrev pub AreWithin : ℕ → List (Map ℕ Value) → Type 0
AreWithin greatest heaps = All (HasValues (IsAtMost greatest)) heaps
