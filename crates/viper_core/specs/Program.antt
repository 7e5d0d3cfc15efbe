-- Programs as plain data. A name is the list of its bytes.
use Rattle.std.specs.Prelude.{ℕ, List, Option}
use Rattle.vb_base.specs.declared.places.Pos.{Pos}
use Rattle.vb_value.specs.Layout.{Layout}
use Rattle.vb_value.specs.declared.values.Ty.{Ty}
use Rattle.viper_core.specs.declared.programs.Unit as unit
use Rattle.viper_core.specs.Expr.{Assertion}
use Rattle.viper_core.specs.Stmt.{Stmts}

pub record Predicate : Type 0 where
  pub name : List ℕ
  pub at : Pos
  pub names : List (List ℕ)
  pub params : List Ty
  pub body : Option Assertion

pub record Body : Type 0 where
  pub turn : Pos
  pub stmts : Stmts

pub record Method : Type 0 where
  pub name : List ℕ
  pub at : Pos
  pub name_at : Pos
  pub names : List (List ℕ)
  pub params : ℕ
  pub returns : ℕ
  pub vars : List Ty
  pub preconditions : List Assertion
  pub postconditions : List Assertion
  pub body : Option Body

pub record Program : Type 0 where
  pub fields : List (List ℕ)
  pub layout : Layout
  pub predicates : List Predicate
  pub methods : List Method
  pub units : List unit.Unit
