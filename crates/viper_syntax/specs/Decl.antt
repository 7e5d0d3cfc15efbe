-- The trees of declarations as plain data.
use Rattle.std.specs.Prelude.{List, Option}
use Rattle.vb_base.specs.declared.places.Pos.{Pos}
use Rattle.viper_syntax.specs.declared.stmts.Named.{Named}
use Rattle.viper_syntax.specs.declared.stmts.Formal.{Formal}
use Rattle.viper_syntax.specs.declared.tokens.Word.{Word}
use Rattle.viper_syntax.specs.Term.{Term}
use Rattle.viper_syntax.specs.Stmt.{SBlock}

-- `requires` or `ensures`, and its term
pub record SClause : Type 0 where
  pub word : Word
  pub term : Term

-- a method
pub record SMethod : Type 0 where
  pub at : Pos
  pub name : Named
  pub params : List Formal
  pub returns : List Formal
  pub clauses : List SClause
  pub body : Option SBlock

-- a declaration
pub data Decl : Type 0 where
  Field : Formal → Decl
  Predicate : Pos → Named → List Formal → Option Term → Decl
  Method : SMethod → Decl

-- a file
pub record SourceProgram : Type 0 where
  pub decls : List Decl
