-- Where a run of a unit's procedure begins: the variables that an opening sets, by their numbers.
use Rattle.std.specs.Prelude.{ℕ, ◌+◌, List, [], ◌∷◌, All}
use Rattle.sparse.specs.Map.{keys, values}
use Rattle.viper_state.specs.Run.{Opening}
use Rattle.boogie_tree.specs.Value.{BValue, One, Many, BSetting}
use Rattle.moves.specs.Printable.{IsNamedKey, IsNamedScalar}
use Rattle.enc_expr.specs.Front.{front_values}

-- variables from this number on have these values
abbrev pub settings_from : ℕ → List BValue → List BSetting
settings_from n [] = []
settings_from n (v ∷ vs) = record { var = n; value = v } ∷ settings_from (n + 1) vs

-- the variables of a unit's procedure that an opening sets; all others have their defaults
abbrev pub start_settings : Opening → List BSetting
start_settings o = settings_from 0 (front_values o)

-- ---- references below 2^64, as every reference of the code is

abbrev pub IsNamedBValue : BValue → Type 0
IsNamedBValue (One v) = IsNamedScalar v
IsNamedBValue (Many m) = All IsNamedKey (keys m) × All IsNamedScalar (values m)

abbrev pub IsNamedSetting : BSetting → Type 0
IsNamedSetting s = IsNamedBValue s.value
