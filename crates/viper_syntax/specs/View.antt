-- What contracts see of the trees of the program: the plain data of Term, Stmt and Decl. Tokens, names and formals hold
-- no box and no vector that a contract sees, so they are plain as they are.
use Rattle.std.specs.Prelude.{List, [], ◌∷◌, Option, Some, None, map}
use Rattle.std.specs.Option.{option_map}
use Rattle.std.specs.declared.boxed.Box.{Box}
use Rattle.std.specs.declared.alloc.Global.{Global}
use Rattle.viper_syntax.specs.Term as t
use Rattle.viper_syntax.specs.Stmt as s
use Rattle.viper_syntax.specs.Decl as d
use Rattle.viper_syntax.specs.declared.terms.Term as term
use Rattle.viper_syntax.specs.declared.stmts.SCall.{SCall}
use Rattle.viper_syntax.specs.declared.stmts.SNew.{SNew}
use Rattle.viper_syntax.specs.declared.stmts.SRhs.{SRhs}
use Rattle.viper_syntax.specs.declared.stmts.SRhs.TheVariants as rhs
use Rattle.viper_syntax.specs.declared.stmts.SFold.{SFold}
use Rattle.viper_syntax.specs.declared.stmts.SBlock.{SBlock}
use Rattle.viper_syntax.specs.declared.stmts.SArm.{SArm}
use Rattle.viper_syntax.specs.declared.stmts.SStmt as stmt
use Rattle.viper_syntax.specs.declared.decls.SClause.{SClause}
use Rattle.viper_syntax.specs.declared.decls.SMethod.{SMethod}
use Rattle.viper_syntax.specs.declared.decls.Decl.{Decl}
use Rattle.viper_syntax.specs.declared.decls.Decl.TheVariants as decl
use Rattle.viper_syntax.specs.declared.decls.SourceProgram.{SourceProgram}

-- terms

abbrev mutual
  pub term_of : term.Term → t.Term
  term_of (term.Name x at) = t.Name x at
  term_of (term.Number n at) = t.Number n at
  term_of (term.Constant w at) = t.Constant w at
  term_of (term.Unary' o p a at) = t.Unary o (term_of a) at
  term_of (term.Binary' o p a q b at) = t.Binary o (term_of a) (term_of b) at
  term_of (term.Choose' p a q b r c at) = t.Choose (term_of a) (term_of b) (term_of c) at
  term_of (term.Field' p a f at) = t.Field (term_of a) f at
  term_of (term.Old' p a at) = t.Old (term_of a) at
  term_of (term.Acc' p a m at) = t.Acc (term_of a) (held_amount m) at
  term_of (term.Inst' x shape args at) = t.Inst x (term_row args) at
  term_of (term.Unfolding' p at x shape args m q a) =
      t.Unfolding x.name (term_row args) (held_amount m) (term_of a) at x.pos

  -- the amount inside a term
  pub held_amount : term.Held-Term-Acc-1 → t.Amount
  held_amount term.None' = t.omitted
  held_amount (term.Some' p a) = t.given (term_of a)

  -- the arguments inside a term
  pub term_row : {n : _} → term.Row_of-Term n → t.Terms
  term_row term.end_of-Term = t.none
  term_row (term.more_of-Term a rest) = t.more (term_of a) (term_row rest)

-- the items of a `Vec` or a slice, as the arguments of a term
abbrev pub terms_of : List term.Term → t.Terms
terms_of [] = t.none
terms_of (a ∷ rest) = t.more (term_of a) (terms_of rest)

-- an optional boxed term, as the amount of a term
abbrev pub amount_of : Option (Box term.Term Global) → t.Amount
amount_of None = t.omitted
amount_of (Some a) = t.given (term_of a.value)

-- an optional term, as the amount of a `fold` or `unfold`
abbrev pub fold_amount_of : Option term.Term → t.Amount
fold_amount_of None = t.omitted
fold_amount_of (Some a) = t.given (term_of a)

-- the parts of statements that stand in no cycle

abbrev pub call_of : SCall → s.SCall
call_of c = record { name = c.name; args = map term_of c.args.items }

abbrev pub new_of : SNew → s.SNew
new_of n = record { at = n.at; every = n.every; fields = n.fields.items }

abbrev pub rhs_of : SRhs → s.SRhs
rhs_of (rhs.Call c) = s.CallRhs (call_of c)
rhs_of (rhs.New n) = s.NewRhs (new_of n)
rhs_of (rhs.Term a) = s.TermRhs (term_of a)

abbrev pub fold_of : SFold → s.SFold
fold_of f = record { at = f.at; call = call_of f.call; amount = fold_amount_of f.amount }

-- statements

abbrev mutual
  pub stmt_of : stmt.SStmt → s.SStmt
  stmt_of (stmt.Var at x init) = s.Var at x (option_map rhs_of init)
  stmt_of (stmt.Assign xs e) = s.Assign xs.items (rhs_of e)
  stmt_of (stmt.CallTo xs c) = s.CallTo xs.items (call_of c)
  stmt_of (stmt.Call c) = s.Call (call_of c)
  stmt_of (stmt.Check w at a) = s.Check w at (term_of a)
  stmt_of (stmt.Fold f) = s.Fold (fold_of f)
  stmt_of (stmt.Unfold f) = s.Unfold (fold_of f)
  stmt_of (stmt.If' shape arms other) = s.If (arm_row arms) (held_else other)
  stmt_of (stmt.While' at a is body_at shape body) = s.While at (term_of a) (map term_of is.items) (s.block body_at (stmt_row body))

  -- the statements inside a statement
  pub stmt_row : {n : _} → stmt.Row_of-SStmt n → s.SStmts
  stmt_row stmt.end_of-SStmt = s.no_stmts
  stmt_row (stmt.more_of-SStmt a rest) = s.more_stmts (stmt_of a) (stmt_row rest)

  -- the arms inside a statement
  pub arm_row : {n : _} → stmt.Row_of-SArm n → s.SArms
  arm_row stmt.end_of-SArm = s.no_arms
  arm_row (stmt.more_of-SArm at a body_at shape body rest) =
      s.more_arms (s.arm at (term_of a) (s.block body_at (stmt_row body))) (arm_row rest)

  -- the `else` inside a statement
  pub held_else : stmt.Held-SStmt-If-1 → s.SElse
  held_else stmt.None' = s.no_else
  held_else (stmt.Some' at shape body) = s.else_block (s.block at (stmt_row body))

-- the items of a `Vec` or a slice, as the statements of a block
abbrev pub stmts_of : List stmt.SStmt → s.SStmts
stmts_of [] = s.no_stmts
stmts_of (a ∷ rest) = s.more_stmts (stmt_of a) (stmts_of rest)

abbrev pub block_of : SBlock → s.SBlock
block_of b = s.block b.at (stmts_of b.stmts.items)

abbrev pub arm_of : SArm → s.SArm
arm_of a = s.arm a.at (term_of a.condition) (block_of a.block)

-- the items of a `Vec` or a slice, as the arms of an `if`
abbrev pub arms_of : List SArm → s.SArms
arms_of [] = s.no_arms
arms_of (a ∷ rest) = s.more_arms (arm_of a) (arms_of rest)

-- an optional block, as the `else` of an `if`
abbrev pub else_of : Option SBlock → s.SElse
else_of None = s.no_else
else_of (Some b) = s.else_block (block_of b)

-- declarations

abbrev pub clause_of : SClause → d.SClause
clause_of c = record { word = c.word; term = term_of c.term }

abbrev pub method_of : SMethod → d.SMethod
method_of m = record {
  at = m.at;
  name = m.name;
  params = m.params.items;
  returns = m.returns.items;
  clauses = map clause_of m.clauses.items;
  body = option_map block_of m.body;
}

abbrev pub decl_of : Decl → d.Decl
decl_of (decl.Field x) = d.Field x
decl_of (decl.Predicate at name params body) = d.Predicate at name params.items (option_map term_of body)
decl_of (decl.Method m) = d.Method (method_of m)

abbrev pub program_of : SourceProgram → d.SourceProgram
program_of p = record { decls = map decl_of p.decls.items }
