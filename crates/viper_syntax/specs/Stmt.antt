-- The trees of statements as plain data. A block, an arm and the lists of these stand in a cycle with statements, so
-- each is a data type of one block; all others are records.
use Rattle.std.specs.Prelude.{Bool, List, [], ◌∷◌, Option, Some, None}
use Rattle.vb_base.specs.declared.places.Pos.{Pos}
use Rattle.viper_syntax.specs.declared.stmts.Named.{Named}
use Rattle.viper_syntax.specs.declared.stmts.Formal.{Formal}
use Rattle.viper_syntax.specs.declared.tokens.Word.{Word}
use Rattle.viper_syntax.specs.Term.{Term, Amount}

-- a call
pub record SCall : Type 0 where
  pub name : Named
  pub args : List Term

-- a creation of an object
pub record SNew : Type 0 where
  pub at : Pos
  pub every : Bool
  pub fields : List Named

-- what is assigned
pub data SRhs : Type 0 where
  CallRhs : SCall → SRhs
  NewRhs : SNew → SRhs
  TermRhs : Term → SRhs

-- the instance of a `fold` or `unfold`
pub record SFold : Type 0 where
  pub at : Pos
  pub call : SCall
  pub amount : Amount

mutual
  pub data SStmt : Type 0 where
    Var : Pos → Formal → Option SRhs → SStmt
    Assign : List Named → SRhs → SStmt
    CallTo : List Named → SCall → SStmt
    Call : SCall → SStmt
    Check : Word → Pos → Term → SStmt
    Fold : SFold → SStmt
    Unfold : SFold → SStmt
    If : SArms → SElse → SStmt
    While : Pos → Term → List Term → SBlock → SStmt

  -- a block: the place of its `{`, and its statements
  pub data SBlock : Type 0 where
    block : Pos → SStmts → SBlock

  -- an arm of an `if`: the place of its word, its condition, its block
  pub data SArm : Type 0 where
    arm : Pos → Term → SBlock → SArm

  pub data SElse : Type 0 where
    no_else : SElse
    else_block : SBlock → SElse

  pub data SStmts : Type 0 where
    no_stmts : SStmts
    more_stmts : SStmt → SStmts → SStmts

  pub data SArms : Type 0 where
    no_arms : SArms
    more_arms : SArm → SArms → SArms

-- a list of statements as those of a block
abbrev pub stmts : List SStmt → SStmts
stmts [] = no_stmts
stmts (a ∷ rest) = more_stmts a (stmts rest)

-- a list of arms as those of an `if`
abbrev pub arms : List SArm → SArms
arms [] = no_arms
arms (a ∷ rest) = more_arms a (arms rest)

-- an optional block as an `else`
abbrev pub else_of : Option SBlock → SElse
else_of None = no_else
else_of (Some b) = else_block b
