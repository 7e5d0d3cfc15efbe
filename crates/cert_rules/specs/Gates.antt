-- The truth tables of operators, by the truth values of literals.
use Rattle.std.specs.Prelude.{◌≡◌, Bool as Truth, true, false, List}
use Rattle.std.specs.Bool.{beq}
use Rattle.boogie_tree.specs.Value.{BValue, Bool}
use Rattle.boogie_meaning.specs.Ends.{Is}
use Rattle.cert_terms.specs.declared.terms.ClauseLiteral.{ClauseLiteral}
use Rattle.cert_rules.specs.Reasons.{value_of}

-- the literal has this truth value
abbrev pub HasTruth : List BValue → ClauseLiteral → Truth → Type 0
HasTruth values l p = value_of values l ≡ Is (Bool p)

-- n is a && b, where b has a truth value at least where a is true
pub data IsAnd (values : List BValue) (n a b : ClauseLiteral) : Type 0 where
  both : {p : Truth} → HasTruth values n p → HasTruth values a true → HasTruth values b p → IsAnd values n a b
  neither : HasTruth values n false → HasTruth values a false → IsAnd values n a b

-- n is a == b
pub data IsEqual (values : List BValue) (n a b : ClauseLiteral) : Type 0 where
  equal : {p q : Truth} → HasTruth values n (beq p q) → HasTruth values a p → HasTruth values b q → IsEqual values n a b

-- n is if c then a else b
pub data IsIf (values : List BValue) (n c a b : ClauseLiteral) : Type 0 where
  yes : {p : Truth} → HasTruth values n p → HasTruth values c true → HasTruth values a p → IsIf values n c a b
  no : {p : Truth} → HasTruth values n p → HasTruth values c false → HasTruth values b p → IsIf values n c a b
