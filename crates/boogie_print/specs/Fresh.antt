-- What is written for the variables that a `forall` binds.
use Rattle.std.specs.Prelude.{◌≡◌, ℕ, false, List, length, All}
use Rattle.vb_base.specs.Names.{NamesDiffer}
use Rattle.boogie_tree.specs.declared.exprs.BBase.{BBase}
use Rattle.boogie_grammar.specs.Printed.{bound_name}
use Rattle.boogie_grammar.specs.Words.{is_among}

-- `q` and a number
abbrev pub IsNumbered : List ℕ → Type 0
IsNumbered name = (n : ℕ) × (name ≡ bound_name n)

-- a name for each of these types, none that of a local and no two the same
pub record AreFresh (locals : List (List ℕ)) (types : List BBase) (names : List (List ℕ)) : Type 0 where
  pub each : length names ≡ length types
  pub numbered : All IsNumbered names
  pub new : All (λ name. is_among name locals ≡ false) names
  pub differ : NamesDiffer names
