-- The trees of formulas and conditions as plain data. antt has no data that holds a `List` of itself, so lists of keys are a type of their own
-- beside it.
use Rattle.std.specs.Prelude.{ℕ, ℤ, Bool as Truth, List, [], ◌∷◌}
use Rattle.boogie_tree.specs.Program.{BType}
use Rattle.boogie_tree.specs.declared.exprs.BBase.{BBase}
use Rattle.boogie_tree.specs.declared.exprs.BOp.{BOp}
use Rattle.boogie_formula.specs.declared.formulas.Fail.{Fail}

mutual
  -- an expression of a program, with the update of a map beside its forms
  pub data FExpr : Type 0 where
    Var : ℕ → FExpr
    Int : ℤ → FExpr
    Real : ℤ → FExpr
    Bool : Truth → FExpr
    Null : FExpr
    Unit : FExpr
    Neg : FExpr → FExpr
    Not : FExpr → FExpr
    Bin : BOp → FExpr → FExpr → FExpr
    If : FExpr → FExpr → FExpr → FExpr
    Forall : List BBase → FExpr → FExpr
    ToReal : FExpr → FExpr
    SInt : FExpr → FExpr
    SBool : FExpr → FExpr
    SRef : FExpr → FExpr
    SPerm : FExpr → FExpr
    Pair : FExpr → FExpr → FExpr
    At : ℕ → FExprs → FExpr
    AtBound : ℕ → FExpr
    -- the map, the keys, and the value that it gets there
    With : FExpr → FExprs → FExpr → FExpr

  -- the keys of a map
  pub data FExprs : Type 0 where
    none : FExprs
    more : FExpr → FExprs → FExprs

-- a list of expressions as keys
abbrev pub fexprs : List FExpr → FExprs
fexprs [] = none
fexprs (e ∷ es) = more e (fexprs es)

-- Typed variables, definitions and a goal. A number is one in a single numbering, variables first and then definitions, so a
-- definition names variables and the definitions before it.
pub record Formula : Type 0 where
  pub vars : List BType
  pub lets : List FExpr
  pub goal : FExpr

-- Typed variables and definitions, numbered as in a formula, and for each assertion, in the order of the text, its label and the
-- definition that says that it fails.
pub record Conditions : Type 0 where
  pub vars : List BType
  pub lets : List FExpr
  pub fails : List Fail
