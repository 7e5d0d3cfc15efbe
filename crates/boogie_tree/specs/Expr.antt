-- The trees of expressions as plain data. antt has no data that holds a `List` of itself, so index lists are a type of
-- their own beside it.
use Rattle.std.specs.Prelude.{ℕ, ℤ, Bool as Truth, List, [], ◌∷◌}
use Rattle.boogie_tree.specs.declared.exprs.BBase.{BBase}
use Rattle.boogie_tree.specs.declared.exprs.BOp.{BOp}

mutual
  pub data BExpr : Type 0 where
    Var : ℕ → BExpr
    Int : ℤ → BExpr
    Real : ℤ → BExpr
    Bool : Truth → BExpr
    Null : BExpr
    Unit : BExpr
    Neg : BExpr → BExpr
    Not : BExpr → BExpr
    Bin : BOp → BExpr → BExpr → BExpr
    If : BExpr → BExpr → BExpr → BExpr
    Forall : List BBase → BExpr → BExpr
    ToReal : BExpr → BExpr
    SInt : BExpr → BExpr
    SBool : BExpr → BExpr
    SRef : BExpr → BExpr
    SPerm : BExpr → BExpr
    Pair : BExpr → BExpr → BExpr
    At : ℕ → BExprs → BExpr
    AtBound : ℕ → BExpr

  -- the indices of a map
  pub data BExprs : Type 0 where
    none : BExprs
    more : BExpr → BExprs → BExprs

-- a list of expressions as indices
abbrev pub exprs : List BExpr → BExprs
exprs [] = none
exprs (e ∷ es) = more e (exprs es)
