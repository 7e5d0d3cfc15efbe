-- Numbers of names, as whole numbers: how many parts of a common denominator each is.
use Rattle.std.specs.Prelude.{◌≡◌, ℕ, ◌*◌, ◌/◌, ℤ, pos, ◌*ℤ◌, Bool, Option, Some, List, [], ◌∷◌, All, slice_get}
use Rattle.vb_value.specs.Fraction.{Fraction, whole, none}
use Rattle.boogie_tree.specs.Program.{BType}
use Rattle.boogie_tree.specs.Value.{BScalar, Int, Real, BValue, One}
use Rattle.boogie_tree.specs.Values.{IsEnvironment, plain_type}
use Rattle.cert_terms.specs.declared.terms.ClauseLiteral.{ClauseLiteral}
use Rattle.cert_terms.specs.declared.terms.CertificateTerm.{CertificateTerm}
use Rattle.cert_terms.specs.Terms.{IsModel, IsTruth, IsTrueIn}
use Rattle.cert_terms.specs.Literals.{turned}
use Rattle.cert_linear.specs.declared.rows.Product.{Product}
use Rattle.cert_linear.specs.declared.rows.LinearRow.{LinearRow}
use Rattle.cert_linear.specs.declared.rows.SumSign.{SumSign}
use Rattle.cert_linear.specs.Sums.{RowHolds, SumHolds}
use Rattle.cert_linear.specs.Rows.{number_type}

-- the number that a value is, and 0 for what is no number
abbrev pub number_of : BScalar → Fraction
number_of (Int n) = whole n
number_of (Real q) = q
number_of _ = none

abbrev pub number_at : Option BValue → Fraction
number_at (Some (One v)) = number_of v
number_at _ = none

-- the number of a name
abbrev pub number_in : List BValue → ℕ → Fraction
number_in values n = number_at (slice_get values n)

-- the product of the denominators of all names
abbrev pub common : List BValue → ℕ
common [] = 1
common (v ∷ values) = (number_at (Some v)).den * common values

-- that number in parts of the common denominator
abbrev pub parts : List BValue → ℕ → ℤ
parts values n = let q = number_in values n in q.num *ℤ pos (common values / q.den)

-- what a row says, where names have these values
abbrev pub HoldsAt : List BValue → LinearRow → Type 0
HoldsAt values r = RowHolds (parts values) (pos (common values)) r

-- the row is what is known of numbers where the literal is false
abbrev pub IsRowOf : List CertificateTerm → List BType → ClauseLiteral → LinearRow → Type 0
IsRowOf terms types l r = (values : List BValue) → IsEnvironment types values → IsModel terms values → IsTrueIn values (turned l) → HoldsAt values r

-- the row always holds
abbrev pub IsLawful : List CertificateTerm → List BType → LinearRow → Type 0
IsLawful terms types r = (values : List BValue) → IsEnvironment types values → IsModel terms values → HoldsAt values r

-- the name is always this number
abbrev pub IsConstant : List CertificateTerm → List BType → ℕ → Fraction → Type 0
IsConstant terms types n q = (values : List BValue) → IsEnvironment types values → IsModel terms values → number_in values n ≡ q

-- the name of a number is this term
pub record IsTermOf (terms : List CertificateTerm) (types : List BType) (n : ℕ) (t : CertificateTerm) : Type 0 where
  pub is_int : Bool
  pub typed : slice_get types n ≡ Some (plain_type (number_type is_int))
  pub is_there : slice_get terms n ≡ Some t

-- Literals of a clause, all truth values, and a sum that stands to 0 as it says wherever all of them are false.
pub record Follows (terms : List CertificateTerm) (types : List BType) (clause : List ClauseLiteral) (ps : List Product) (n : ℤ) (s : SumSign) : Type 0 where
  pub truths : All (IsTruth types) clause
  pub holds : (values : List BValue) → IsEnvironment types values → IsModel terms values → All (λ l. IsTrueIn values (turned l)) clause → SumHolds (parts values) (pos (common values)) ps n s
