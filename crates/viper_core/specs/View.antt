-- What contracts see of the trees of the program: the plain data of Expr, Stmt and Program.
use Rattle.std.specs.Prelude.{List, [], ◌∷◌, map}
use Rattle.std.specs.Option.{option_map}
use Rattle.viper_core.specs.Expr as t
use Rattle.viper_core.specs.Stmt as s
use Rattle.viper_core.specs.Program as p
use Rattle.viper_core.specs.declared.exprs.Expr as expr
use Rattle.viper_core.specs.declared.exprs.Opened.{Opened}
use Rattle.viper_core.specs.declared.exprs.Amt as amt
use Rattle.viper_core.specs.declared.exprs.Assertion as assertion
use Rattle.viper_core.specs.declared.stmts.FoldStmt.{FoldStmt}
use Rattle.viper_core.specs.declared.stmts.Stmt as stmt
use Rattle.viper_core.specs.declared.stmts.Loop.{Loop}
use Rattle.viper_core.specs.declared.programs.Predicate.{Predicate}
use Rattle.viper_core.specs.declared.programs.Method.{Method}
use Rattle.viper_core.specs.declared.programs.Body.{Body}
use Rattle.viper_core.specs.declared.programs.Program.{Program}

-- expressions and assertions

abbrev mutual
  pub expr_of : expr.Expr → t.Expr
  expr_of (expr.Var x) = t.Var x
  expr_of (expr.Int n) = t.Int n
  expr_of (expr.Bool b) = t.Bool b
  expr_of expr.Null = t.Null
  expr_of (expr.Part q) = t.Part q
  expr_of (expr.Neg' o a) = t.Neg (expr_of a)
  expr_of (expr.Not' o a) = t.Not (expr_of a)
  expr_of (expr.Bin' op o a r b at) = t.Bin op (expr_of a) (expr_of b) at
  expr_of (expr.Choose' o a r b u c) = t.Choose (expr_of a) (expr_of b) (expr_of c)
  expr_of (expr.Field' o a f at) = t.Field (expr_of a) f at
  expr_of (expr.Old' o a) = t.Old (expr_of a)
  expr_of (expr.Unfolding' o p shape args m body inner place) =
      t.Unfolding (t.opened p (expr_row args) (expr_of m) (assertion_of body) (expr_of inner) place)

  -- the arguments inside a tree
  pub expr_row : {n : _} → expr.Row_of-Expr n → t.Exprs
  expr_row expr.end_of-Expr = t.none
  expr_row (expr.more_of-Expr a rest) = t.more (expr_of a) (expr_row rest)

  pub amt_of : amt.Amt → t.Amt
  amt_of (amt.Is a) = t.Is (expr_of a)
  amt_of amt.Wildcard = t.Wildcard

  pub assertion_of : assertion.Assertion → t.Assertion
  assertion_of (assertion.Fact e at) = t.Fact (expr_of e) at
  assertion_of (assertion.Acc e f m at) = t.Acc (expr_of e) f (amt_of m) at
  assertion_of (assertion.Inst' p shape args m at) = t.Inst p (expr_row args) (amt_of m) at
  assertion_of (assertion.And' o a r b) = t.And (assertion_of a) (assertion_of b)
  assertion_of (assertion.Implies' e o a) = t.Implies (expr_of e) (assertion_of a)
  assertion_of (assertion.Choose' e o a r b) = t.ChooseAssertion (expr_of e) (assertion_of a) (assertion_of b)

-- the items of a `Vec` or a slice, as arguments
abbrev pub exprs_of : List expr.Expr → t.Exprs
exprs_of [] = t.none
exprs_of (e ∷ es) = t.more (expr_of e) (exprs_of es)

abbrev pub opened_of : Opened → t.Opened
opened_of o = t.opened o.predicate (exprs_of o.args.items) (expr_of o.amount) (assertion_of o.body) (expr_of o.inner) o.place

-- the items of a `Vec` or a slice, as clauses or invariants
abbrev pub assertions_of : List assertion.Assertion → List t.Assertion
assertions_of = map assertion_of

-- statements

abbrev pub fold_of : FoldStmt → s.FoldStmt
fold_of f = record { at = f.at; predicate = f.predicate; args = exprs_of f.args.items; amount = expr_of f.amount; place = f.place }

abbrev mutual
  pub stmt_of : stmt.Stmt → s.Stmt
  stmt_of (stmt.Var at x init) = s.Var at x (option_map expr_of init)
  stmt_of (stmt.Assign at x e) = s.Assign at x (expr_of e)
  stmt_of (stmt.Write at e f place d) = s.Write at (expr_of e) f place (expr_of d)
  stmt_of (stmt.New at x fields refs) = s.New at x fields.items refs.items
  stmt_of (stmt.Call at xs m args) = s.Call at xs.items m (exprs_of args.items)
  stmt_of (stmt.Inhale at a) = s.Inhale at (assertion_of a)
  stmt_of (stmt.Exhale at a) = s.Exhale at (assertion_of a)
  stmt_of (stmt.Assert at a) = s.Assert at (assertion_of a)
  stmt_of (stmt.Fold f) = s.Fold (fold_of f)
  stmt_of (stmt.Unfold f) = s.Unfold (fold_of f)
  stmt_of (stmt.If' at e shape a shape_b b) = s.If at (expr_of e) (stmt_row a) (stmt_row b)
  stmt_of (stmt.While' at e is shape body turn targets) =
      s.While (s.loop at (expr_of e) (assertions_of is.items) (stmt_row body) turn targets.items)

  -- the statements inside a statement
  pub stmt_row : {n : _} → stmt.Row_of-Stmt n → s.Stmts
  stmt_row stmt.end_of-Stmt = s.skip
  stmt_row (stmt.more_of-Stmt a rest) = s.next (stmt_of a) (stmt_row rest)

-- the items of a `Vec` or a slice, as the statements of a block
abbrev pub stmts_of : List stmt.Stmt → s.Stmts
stmts_of [] = s.skip
stmts_of (a ∷ rest) = s.next (stmt_of a) (stmts_of rest)

abbrev pub loop_of : Loop → s.Loop
loop_of w = s.loop w.at (expr_of w.guard) (assertions_of w.invariants.items) (stmts_of w.body.items) w.turn w.targets.items

-- declarations

abbrev pub predicate_of : Predicate → p.Predicate
predicate_of d = record { name = d.name; at = d.at; names = d.names.items; params = d.params.items; body = option_map assertion_of d.body }

abbrev pub body_of : Body → p.Body
body_of b = record { turn = b.turn; stmts = stmts_of b.stmts.items }

abbrev pub method_of : Method → p.Method
method_of m = record {
  name = m.name;
  at = m.at;
  name_at = m.name_at;
  names = m.names.items;
  params = m.params;
  returns = m.returns;
  vars = m.vars.items;
  preconditions = assertions_of m.preconditions.items;
  postconditions = assertions_of m.postconditions.items;
  body = option_map body_of m.body;
}

abbrev pub program_of : Program → p.Program
program_of p = record {
  fields = p.fields.items;
  layout = p.layout;
  predicates = map predicate_of p.predicates.items;
  methods = map method_of p.methods.items;
  units = p.units.items;
}
