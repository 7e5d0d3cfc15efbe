-- What the reasons of steps speak of. A reason gives a clause, some literal of which is true at all values of the names.
use Rattle.std.specs.Prelude.{◌≡◌, ◌⊎◌, ℕ, true, false, List, map, slice_get, Some}
use Rattle.std.specs.declared.alloc.Global.{Global}
use Rattle.std.specs.declared.vec.Vec.{Vec}
use Rattle.boogie_tree.specs.Program.{BType}
use Rattle.boogie_tree.specs.Value.{BScalar, BValue}
use Rattle.boogie_tree.specs.Values.{IsEnvironment}
use Rattle.boogie_tree.specs.declared.exprs.BOp.TheVariants as op
use Rattle.boogie_meaning.specs.Ends.{End}
use Rattle.boogie_formula.specs.Value.{fvalue}
use Rattle.cert_terms.specs.Terms.{operand, IsModel, IsTruth, HoldsIn}
use Rattle.cert_terms.specs.declared.terms.ClauseLiteral.{ClauseLiteral}
use Rattle.cert_terms.specs.declared.terms.CertificateTerm.{CertificateTerm}
use Rattle.cert_terms.specs.declared.terms.CertificateTerm.TheVariants as term

-- a name, and its negation
abbrev pub yes : ℕ → ClauseLiteral
yes n = record { name = n; negated = false }

abbrev pub no : ℕ → ClauseLiteral
no n = record { name = n; negated = true }

-- the value of what is no map
abbrev pub value_of : List BValue → ClauseLiteral → End BScalar
value_of values l = fvalue (operand l) values

-- the values of these
abbrev pub values_of : List BValue → List ClauseLiteral → List (End BScalar)
values_of values ls = map (value_of values) ls

-- the name is an equation of these two
pub record IsEquation (terms : List CertificateTerm) (types : List BType) (n : ℕ) (a b : ClauseLiteral) : Type 0 where
  pub is_there : slice_get terms n ≡ Some (term.Bin op.Eq a b)
  pub is_truth : IsTruth types (yes n)

-- at all values of the names' types at which each name is what its term says, the clause holds, or else P is true
abbrev pub IsLawUnless : List CertificateTerm → List BType → List ClauseLiteral → (List BValue → Type 0) → Type 0
IsLawUnless terms types clause P = (values : List BValue) → IsEnvironment types values → IsModel terms values → HoldsIn values clause ⊎ P values

-- the literal is the name of this term
pub record IsNamed (terms : List CertificateTerm) (l : ClauseLiteral) (t : CertificateTerm) : Type 0 where
  pub is_name : l ≡ yes l.name
  pub is_there : slice_get terms l.name ≡ Some t

-- the literal is the map of this name at these keys
pub record IsPlace (terms : List CertificateTerm) (l : ClauseLiteral) (m : ℕ) (ks : List ClauseLiteral) : Type 0 where
  pub keys : Vec ClauseLiteral Global
  pub named : IsNamed terms l (term.At m keys)
  pub keys_are : keys.items ≡ ks

-- the name is the map of this name but for the value at these keys
pub record IsChange (terms : List CertificateTerm) (n m : ℕ) (ks : List ClauseLiteral) (v : ClauseLiteral) : Type 0 where
  pub keys : Vec ClauseLiteral Global
  pub is_there : slice_get terms n ≡ Some (term.Put m keys v)
  pub keys_are : keys.items ≡ ks

-- the step of this number is this clause
pub record IsStep (clauses : List (Vec ClauseLiteral Global)) (n : ℕ) (clause : List ClauseLiteral) : Type 0 where
  pub step : Vec ClauseLiteral Global
  pub is_there : slice_get clauses n ≡ Some step
  pub items_are : step.items ≡ clause

-- these two stand at one place, or in turn
pub data IsAmong (ls ms : List ClauseLiteral) (a b : ClauseLiteral) : Type 0 where
  along : (i : ℕ) → slice_get ls i ≡ Some a → slice_get ms i ≡ Some b → IsAmong ls ms a b
  turned : (i : ℕ) → slice_get ls i ≡ Some b → slice_get ms i ≡ Some a → IsAmong ls ms a b
