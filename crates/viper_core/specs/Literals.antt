-- The literals of expressions and assertions, in a run with a bound or without one.
use Rattle.std.specs.Prelude.{⊤, ℤ}
use Rattle.vb_value.specs.Bound.{Bound, IfBounded, IsWithin}
use Rattle.vb_value.specs.Fraction.{Fraction, IsWithinFraction, IsProperFraction}
use Rattle.viper_core.specs.Expr as t

-- each number and each permission that is a literal has its property
abbrev mutual
  pub AllLiterals : (ℤ → Type 0) → (Fraction → Type 0) → t.Expr → Type 0
  AllLiterals I F (t.Var x) = ⊤
  AllLiterals I F (t.Int n) = I n
  AllLiterals I F (t.Bool b) = ⊤
  AllLiterals I F t.Null = ⊤
  AllLiterals I F (t.Part q) = F q
  AllLiterals I F (t.Neg a) = AllLiterals I F a
  AllLiterals I F (t.Not a) = AllLiterals I F a
  AllLiterals I F (t.Bin o a c at) = AllLiterals I F a × AllLiterals I F c
  AllLiterals I F (t.Choose a c d) = AllLiterals I F a × AllLiterals I F c × AllLiterals I F d
  AllLiterals I F (t.Field a field at) = AllLiterals I F a
  AllLiterals I F (t.Old a) = AllLiterals I F a
  AllLiterals I F (t.Unfolding o) = AllOpenedLiterals I F o

  pub AllOpenedLiterals : (ℤ → Type 0) → (Fraction → Type 0) → t.Opened → Type 0
  AllOpenedLiterals I F (t.opened p args amount body inner at) = AllExprsLiterals I F args × AllLiterals I F amount × AllAssertionLiterals I F body × AllLiterals I F inner

  pub AllExprsLiterals : (ℤ → Type 0) → (Fraction → Type 0) → t.Exprs → Type 0
  AllExprsLiterals I F t.none = ⊤
  AllExprsLiterals I F (t.more a rest) = AllLiterals I F a × AllExprsLiterals I F rest

  pub AllAmountLiterals : (ℤ → Type 0) → (Fraction → Type 0) → t.Amt → Type 0
  AllAmountLiterals I F (t.Is a) = AllLiterals I F a
  AllAmountLiterals I F t.Wildcard = ⊤

  pub AllAssertionLiterals : (ℤ → Type 0) → (Fraction → Type 0) → t.Assertion → Type 0
  AllAssertionLiterals I F (t.Fact a at) = AllLiterals I F a
  AllAssertionLiterals I F (t.Acc a field m at) = AllLiterals I F a × AllAmountLiterals I F m
  AllAssertionLiterals I F (t.Inst p args m at) = AllExprsLiterals I F args × AllAmountLiterals I F m
  AllAssertionLiterals I F (t.And a c) = AllAssertionLiterals I F a × AllAssertionLiterals I F c
  AllAssertionLiterals I F (t.Implies a c) = AllLiterals I F a × AllAssertionLiterals I F c
  AllAssertionLiterals I F (t.ChooseAssertion a c d) = AllLiterals I F a × AllAssertionLiterals I F c × AllAssertionLiterals I F d

-- ---- each literal permission is in lowest terms, and each number is within the bound where there is one

abbrev pub IsProperExpr : Bound → t.Expr → Type 0
IsProperExpr b = AllLiterals (λ n. IfBounded b (IsWithin n)) (IsProperFraction b)

abbrev pub IsProperOpened : Bound → t.Opened → Type 0
IsProperOpened b = AllOpenedLiterals (λ n. IfBounded b (IsWithin n)) (IsProperFraction b)

abbrev pub AreProperExprs : Bound → t.Exprs → Type 0
AreProperExprs b = AllExprsLiterals (λ n. IfBounded b (IsWithin n)) (IsProperFraction b)

abbrev pub IsProperAmount : Bound → t.Amt → Type 0
IsProperAmount b = AllAmountLiterals (λ n. IfBounded b (IsWithin n)) (IsProperFraction b)

abbrev pub IsProperAssertion : Bound → t.Assertion → Type 0
IsProperAssertion b = AllAssertionLiterals (λ n. IfBounded b (IsWithin n)) (IsProperFraction b)

-- ---- each literal is within the bound

abbrev pub IsWithinExpr : t.Expr → Type 0
IsWithinExpr = AllLiterals IsWithin IsWithinFraction

abbrev pub IsWithinOpened : t.Opened → Type 0
IsWithinOpened = AllOpenedLiterals IsWithin IsWithinFraction

abbrev pub AreWithinExprs : t.Exprs → Type 0
AreWithinExprs = AllExprsLiterals IsWithin IsWithinFraction

abbrev pub IsWithinAmount : t.Amt → Type 0
IsWithinAmount = AllAmountLiterals IsWithin IsWithinFraction

abbrev pub IsWithinAssertion : t.Assertion → Type 0
IsWithinAssertion = AllAssertionLiterals IsWithin IsWithinFraction
