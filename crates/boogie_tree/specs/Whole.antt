-- What contracts see of the whole trees, of values and of runs: the plain data of Expr, Stmt, Program and Value.
use Rattle.std.specs.Prelude.{List, [], ◌∷◌, map}
use Rattle.sparse.specs.Meaning.{meaning_of}
use Rattle.vb_value.specs.View.{content_of}
use Rattle.boogie_tree.specs.Expr as t
use Rattle.boogie_tree.specs.Stmt as s
use Rattle.boogie_tree.specs.Program as p
use Rattle.boogie_tree.specs.Value as v
use Rattle.boogie_tree.specs.declared.exprs.BExpr as expr
use Rattle.boogie_tree.specs.declared.stmts.BStmt as stmt
use Rattle.boogie_tree.specs.declared.programs.BType.{BType}
use Rattle.boogie_tree.specs.declared.programs.Local.{Local}
use Rattle.boogie_tree.specs.declared.programs.Proc.{Proc}
use Rattle.boogie_tree.specs.declared.programs.BProgram.{BProgram}
use Rattle.boogie_tree.specs.declared.values.BScalar.{BScalar}
use Rattle.boogie_tree.specs.declared.values.BScalar.TheVariants as scalar
use Rattle.boogie_tree.specs.declared.values.BValue.{BValue}
use Rattle.boogie_tree.specs.declared.values.BValue.TheVariants as value
use Rattle.boogie_tree.specs.declared.values.Entry.{Entry}
use Rattle.boogie_tree.specs.declared.values.BChoice.{BChoice}
use Rattle.boogie_tree.specs.declared.values.BChoice.TheVariants as choice
use Rattle.boogie_tree.specs.declared.values.BSetting.{BSetting}
use Rattle.boogie_tree.specs.declared.values.BRun.{BRun}

-- expressions

abbrev mutual
  pub expr_of : expr.BExpr → t.BExpr
  expr_of (expr.Var i) = t.Var i
  expr_of (expr.Int n) = t.Int n
  expr_of (expr.Real n) = t.Real n
  expr_of (expr.Bool b) = t.Bool b
  expr_of expr.Null = t.Null
  expr_of expr.Unit = t.Unit
  expr_of (expr.Neg' o a) = t.Neg (expr_of a)
  expr_of (expr.Not' o a) = t.Not (expr_of a)
  expr_of (expr.Bin' op o a r b) = t.Bin op (expr_of a) (expr_of b)
  expr_of (expr.If' o a r b u c) = t.If (expr_of a) (expr_of b) (expr_of c)
  expr_of (expr.Forall' us o a) = t.Forall us.items (expr_of a)
  expr_of (expr.ToReal' o a) = t.ToReal (expr_of a)
  expr_of (expr.SInt' o a) = t.SInt (expr_of a)
  expr_of (expr.SBool' o a) = t.SBool (expr_of a)
  expr_of (expr.SRef' o a) = t.SRef (expr_of a)
  expr_of (expr.SPerm' o a) = t.SPerm (expr_of a)
  expr_of (expr.Pair' o a r b) = t.Pair (expr_of a) (expr_of b)
  expr_of (expr.At' i shape es) = t.At i (expr_row es)
  expr_of (expr.AtBound i) = t.AtBound i

  -- the indices inside a tree
  pub expr_row : {n : _} → expr.Row_of-BExpr n → t.BExprs
  expr_row expr.end_of-BExpr = t.none
  expr_row (expr.more_of-BExpr a rest) = t.more (expr_of a) (expr_row rest)

-- the items of a `Vec` or a slice, as indices
abbrev pub exprs_of : List expr.BExpr → t.BExprs
exprs_of [] = t.none
exprs_of (e ∷ es) = t.more (expr_of e) (exprs_of es)

-- statements

abbrev mutual
  pub stmt_of : stmt.BStmt → s.BStmt
  stmt_of (stmt.Assign i e) = s.Assign i (expr_of e)
  stmt_of (stmt.Put i es e) = s.Put i (exprs_of es.items) (expr_of e)
  stmt_of (stmt.Havoc i) = s.Havoc i
  stmt_of (stmt.Assume e) = s.Assume (expr_of e)
  stmt_of (stmt.Assert l e) = s.Assert l (expr_of e)
  stmt_of (stmt.If' e shape a shape_b b) = s.If (expr_of e) (stmt_row a) (stmt_row b)
  stmt_of (stmt.Either' shape a shape_b b) = s.Either (stmt_row a) (stmt_row b)

  -- the statements inside a statement
  pub stmt_row : {n : _} → stmt.Row_of-BStmt n → s.BStmts
  stmt_row stmt.end_of-BStmt = s.skip
  stmt_row (stmt.more_of-BStmt a rest) = s.first (stmt_of a) (stmt_row rest)

-- the items of a `Vec` or a slice, as the statements of a block
abbrev pub stmts_of : List stmt.BStmt → s.BStmts
stmts_of [] = s.skip
stmts_of (a ∷ rest) = s.first (stmt_of a) (stmts_of rest)

-- programs

abbrev pub type_of : BType → p.BType
type_of u = record { keys = u.keys.items; base = u.base }

abbrev pub local_of : Local → p.Local
local_of l = record { name = l.name; ty = type_of l.ty }

abbrev pub locals_of : List Local → List p.Local
locals_of = map local_of

abbrev pub proc_of : Proc → p.Proc
proc_of d = record { name = d.name; locals = locals_of d.locals.items; body = stmts_of d.body.items }

abbrev pub program_of : BProgram → p.BProgram
program_of b = record { procs = map proc_of b.procs.items }

-- values and runs

abbrev pub scalar_of : BScalar → v.BScalar
scalar_of (scalar.Int n) = v.Int n
scalar_of (scalar.Bool b) = v.Bool b
scalar_of (scalar.Ref r) = v.Ref r
scalar_of (scalar.Real q) = v.Real q
scalar_of (scalar.Snap c) = v.Snap (content_of c)

abbrev pub value_of : BValue → v.BValue
value_of (value.One x) = v.One (scalar_of x)
value_of (value.Map m) = v.Many (meaning_of (λ k. k) scalar_of m)

abbrev pub entry_of : Entry → v.Entry
entry_of e = record { key = e.key; value = scalar_of e.value }

abbrev pub choice_of : BChoice → v.BChoice
choice_of (choice.Pick b) = v.Pick b
choice_of (choice.Value x) = v.Value (scalar_of x)
choice_of (choice.Entries es) = v.Entries (map entry_of es.items)

abbrev pub setting_of : BSetting → v.BSetting
setting_of x = record { var = x.var; value = value_of x.value }

abbrev pub run_of : BRun → v.BRun
run_of r = record { settings = map setting_of r.settings.items; choices = map choice_of r.choices.items }
