-- The trees of expressions and assertions as plain data: a box is its content, and a fraction is its numerator over its
-- denominator. antt has no data that holds a `List` of itself, so arguments are a type of their own beside it.
use Rattle.std.specs.Prelude.{ℕ, ℤ, Bool as Truth, List, [], ◌∷◌}
use Rattle.vb_base.specs.declared.places.Pos.{Pos}
use Rattle.vb_value.specs.Fraction.{Fraction}
use Rattle.viper_core.specs.declared.exprs.Op.{Op}

mutual
  pub data Expr : Type 0 where
    Var : ℕ → Expr
    Int : ℤ → Expr
    Bool : Truth → Expr
    Null : Expr
    Part : Fraction → Expr
    Neg : Expr → Expr
    Not : Expr → Expr
    Bin : Op → Expr → Expr → Pos → Expr
    Choose : Expr → Expr → Expr → Expr
    Field : Expr → ℕ → Pos → Expr
    Old : Expr → Expr
    Unfolding : Opened → Expr

  -- the predicate, its arguments, the amount, a copy of the predicate's body, the expression after `in`, and the place of
  -- the predicate's name
  pub data Opened : Type 0 where
    opened : ℕ → Exprs → Expr → Assertion → Expr → Pos → Opened

  -- arguments
  pub data Exprs : Type 0 where
    none : Exprs
    more : Expr → Exprs → Exprs

  -- the amount of an accessibility predicate
  pub data Amt : Type 0 where
    Is : Expr → Amt
    Wildcard : Amt

  pub data Assertion : Type 0 where
    Fact : Expr → Pos → Assertion
    Acc : Expr → ℕ → Amt → Pos → Assertion
    Inst : ℕ → Exprs → Amt → Pos → Assertion
    And : Assertion → Assertion → Assertion
    Implies : Expr → Assertion → Assertion
    ChooseAssertion : Expr → Assertion → Assertion → Assertion

-- a list of expressions as arguments
abbrev pub exprs : List Expr → Exprs
exprs [] = none
exprs (e ∷ es) = more e (exprs es)
