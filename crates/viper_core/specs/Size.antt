-- The sizes of expressions and assertions.
use Rattle.std.specs.Prelude.{ℕ, ◌+◌, List, [], ◌∷◌}
use Rattle.viper_core.specs.Expr.{Expr, Var, Int, Bool, Null, Part, Neg, Not, Bin, Choose, Field, Old, Unfolding, opened, Exprs, none, more, Amt, Is, Wildcard, Assertion, Fact, Acc, Inst, And, Implies, ChooseAssertion}

-- The size counts nodes, where `base` is what each part of the program counts at least. An `unfolding` counts that, its
-- arguments, its amount, the body of its predicate and its inner expression.
abbrev mutual
  pub size : ℕ → Expr → ℕ
  size base (Var x) = 1
  size base (Int n) = 1
  size base (Bool b) = 1
  size base Null = 1
  size base (Part q) = 1
  size base (Neg a) = 1 + size base a
  size base (Not a) = 1 + size base a
  size base (Bin o a b at) = 1 + size base a + size base b
  size base (Choose a b c) = 1 + size base a + size base b + size base c
  size base (Field a f at) = 1 + size base a
  size base (Old a) = 1 + size base a
  size base (Unfolding (opened p args m body inner at)) =
      base + sizes base args + size base m + assertion_size base body + size base inner

  pub sizes : ℕ → Exprs → ℕ
  sizes base none = 0
  sizes base (more a rest) = size base a + sizes base rest

  -- an amount that was left out is `write`, which is one node
  pub amount_size : ℕ → Amt → ℕ
  amount_size base (Is a) = size base a
  amount_size base Wildcard = 1

  -- an expression that is used as an assertion adds no node
  pub assertion_size : ℕ → Assertion → ℕ
  assertion_size base (Fact a at) = size base a
  assertion_size base (Acc a f m at) = 1 + size base a + amount_size base m
  assertion_size base (Inst p args m at) = 1 + sizes base args + amount_size base m
  assertion_size base (And a b) = 1 + assertion_size base a + assertion_size base b
  assertion_size base (Implies a b) = 1 + size base a + assertion_size base b
  assertion_size base (ChooseAssertion a b c) = 1 + size base a + assertion_size base b + assertion_size base c

-- clauses or invariants
abbrev pub assertion_sizes : ℕ → List Assertion → ℕ
assertion_sizes base [] = 0
assertion_sizes base (a ∷ rest) = assertion_size base a + assertion_sizes base rest
