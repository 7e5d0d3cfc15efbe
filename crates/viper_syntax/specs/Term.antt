-- The trees of terms as plain data: a name is the list of its bytes, and a box its content. antt has no data that
-- holds a `List` or an `Option` of itself, so the arguments and the amount of a term are types of their own beside it.
use Rattle.std.specs.Prelude.{ℕ, ℤ, List, [], ◌∷◌, Option, Some, None}
use Rattle.vb_base.specs.declared.places.Pos.{Pos}
use Rattle.viper_syntax.specs.declared.tokens.Sign.{Sign}
use Rattle.viper_syntax.specs.declared.tokens.Word.{Word}

mutual
  pub data Term : Type 0 where
    Name : List ℕ → Pos → Term
    Number : ℤ → Pos → Term
    Constant : Word → Pos → Term
    Unary : Sign → Term → Pos → Term
    Binary : Sign → Term → Term → Pos → Term
    Choose : Term → Term → Term → Pos → Term
    Field : Term → List ℕ → Pos → Term
    Old : Term → Pos → Term
    Acc : Term → Amount → Pos → Term
    Inst : List ℕ → Terms → Pos → Term
    -- the predicate's name, its arguments, the amount, the term after `in`, the places of the word and of the name
    Unfolding : List ℕ → Terms → Amount → Term → Pos → Pos → Term

  -- the amount after a comma, or none
  pub data Amount : Type 0 where
    omitted : Amount
    given : Term → Amount

  -- arguments
  pub data Terms : Type 0 where
    none : Terms
    more : Term → Terms → Terms

-- a list of terms as arguments
abbrev pub terms : List Term → Terms
terms [] = none
terms (a ∷ rest) = more a (terms rest)

-- an optional term as an amount
abbrev pub amount : Option Term → Amount
amount None = omitted
amount (Some a) = given a
