-- How a certificate ends: which literals a clause has alone, and which assertions these show to hold.
use Rattle.std.specs.Prelude.{◌≡◌, ℕ, Bool as Truth, List, [], ◌∷◌, Option, Some, slice_get}
use Rattle.std.specs.BTreeMap.{BTreeMap, get}
use Rattle.std.specs.Ordering.{nat_cmp}
use Rattle.std.specs.declared.alloc.Global.{Global}
use Rattle.std.specs.declared.vec.Vec.{Vec}
use Rattle.boogie_formula.specs.declared.formulas.Fail.{Fail}
use Rattle.cert_terms.specs.Literals.{turned}
use Rattle.cert_terms.specs.declared.terms.ClauseLiteral.{ClauseLiteral}

-- a clause is just this literal
pub record IsAlone (clauses : List (Vec ClauseLiteral Global)) (l : ClauseLiteral) : Type 0 where
  pub number : ℕ
  pub clause : Vec ClauseLiteral Global
  pub is_there : slice_get clauses number ≡ Some clause
  pub items_are : clause.items ≡ l ∷ []

-- it is noted that the literal is alone: of each name the sign is kept with which it is
abbrev pub IsNoted : BTreeMap ℕ Truth → ClauseLiteral → Type 0
IsNoted units l = get nat_cmp units l.name ≡ Some l.negated

-- each literal of which this is noted is alone
abbrev pub AreAlone : BTreeMap ℕ Truth → List (Vec ClauseLiteral Global) → Type 0
AreAlone units clauses = (l : ClauseLiteral) → IsNoted units l → IsAlone clauses l

-- the name is told to be a literal whose negation is noted
abbrev pub IsOpposed : BTreeMap ℕ Truth → List (Option ClauseLiteral) → ℕ → Type 0
IsOpposed units aliases name = (l : ClauseLiteral) × (slice_get aliases name ≡ Some (Some l)) × IsNoted units (turned l)

-- what says that the assertion fails is told to be a literal whose negation is alone
pub record IsDenied (clauses : List (Vec ClauseLiteral Global)) (aliases : List (Option ClauseLiteral)) (a : Fail) : Type 0 where
  pub literal : ClauseLiteral
  pub is_told : slice_get aliases a.name ≡ Some (Some literal)
  pub is_alone : IsAlone clauses (turned literal)
