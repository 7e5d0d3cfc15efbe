-- The parts of a formed program, which calls are given: each stands in a context of the program, is typed there, and is
-- nested no deeper than the program is.
use Rattle.std.specs.Prelude.{◌≡◌, ◌<◌, ◌≤◌, ◌^◌, ℕ, List, Some, slice_get, Contains, IsTrue, length, take}
use Rattle.vb_base.specs.Limits.{max_block_depth, max_term_depth}
use Rattle.vb_value.specs.declared.values.Ty.{Ty}
use Rattle.vb_value.specs.declared.values.Ty.TheVariants as ty
use Rattle.viper_core.specs.Depth.{depth, depths, amt_depth, assertion_depth, stmt_depth, stmts_depth, blocks_of, block_depth}
use Rattle.viper_core.specs.Expr as t
use Rattle.viper_core.specs.Formed.{predicate_context, IsFormed}
use Rattle.viper_core.specs.Program.{Predicate}
use Rattle.viper_core.specs.Scope.{Scope, scope_after, stmts_scope}
use Rattle.viper_core.specs.Stmt as s
use Rattle.viper_core.specs.Typing.{Site, allows_old, is_outside_predicates, Context, HasType, HaveTypes, Opens, IsAmount, IsAssertion, MethodContext, IsStmt, AreStmts}

-- ---- expressions and assertions

-- a context of a formed program: a visible variable is one of the variables, so that a store of them has its value
pub record IsContext (c : Context) : Type 0 where
  pub program : IsFormed c.program
  pub visible : (x : ℕ) → Contains c.visible x → x < length c.vars
  pub few : length c.vars < 2 ^ 32

pub record IsPartExpr (c : Context) (a : t.Expr) (u : Ty) : Type 0 where
  pub context : IsContext c
  pub typed : HasType c a u
  pub nested : depth a ≤ max_term_depth

-- arguments
pub record ArePartExprs (c : Context) (args : t.Exprs) (us : List Ty) : Type 0 where
  pub context : IsContext c
  pub typed : HaveTypes c args us
  pub nested : depths args ≤ max_term_depth

-- what an `unfolding` looks into
pub record IsPartOpened (c : Context) (o : t.Opened) (u : Ty) : Type 0 where
  pub context : IsContext c
  pub typed : Opens c o u
  pub nested : depth (t.Unfolding o) ≤ max_term_depth

pub record IsPartAmount (c : Context) (m : t.Amt) : Type 0 where
  pub context : IsContext c
  pub typed : IsAmount c m
  pub nested : amt_depth m ≤ max_term_depth

pub record IsPartAssertion (c : Context) (a : t.Assertion) : Type 0 where
  pub context : IsContext c
  pub typed : IsAssertion c a
  pub nested : assertion_depth a ≤ max_term_depth

-- the parts of what an `unfolding` looks into: the body stands in the context of its predicate
pub record OpensParts (c : Context) (k : ℕ) (es : t.Exprs) (m : t.Expr) (a : t.Assertion) (e : t.Expr) (u : Ty) : Type 0 where
  pub predicate : Predicate
  pub exists : slice_get c.program.predicates k ≡ Some predicate
  pub has_body : predicate.body ≡ Some a
  pub arguments : ArePartExprs c es predicate.params
  pub amount : IsPartExpr c m ty.Perm
  pub body : IsPartAssertion (predicate_context c.program predicate) a
  pub inner : IsPartExpr c e u

-- the parts of the instance of a `fold` or `unfold`: the body stands in the context of its predicate
pub record FoldParts (c : Context) (f : s.FoldStmt) : Type 0 where
  pub predicate : Predicate
  pub body : t.Assertion
  pub exists : slice_get c.program.predicates f.predicate ≡ Some predicate
  pub has_body : predicate.body ≡ Some body
  pub arguments : ArePartExprs c f.args predicate.params
  pub amount : IsPartExpr c f.amount ty.Perm
  pub opened : IsPartAssertion (predicate_context c.program predicate) body

-- ---- statements

-- a scope in the body of a method of a formed program: what is visible was numbered, the parameters first
pub record IsFrame (m : MethodContext) (sc : Scope) : Type 0 where
  pub program : IsFormed m.program
  pub params : m.params ≤ sc.fresh
  pub visible : (x : ℕ) → Contains sc.visible x → x < sc.fresh
  pub few : length m.vars < 2 ^ 32

-- a statement that begins in this scope, and numbers no more variables than there are
pub record IsPartStmt (m : MethodContext) (sc : Scope) (a : s.Stmt) : Type 0 where
  pub frame : IsFrame m sc
  pub typed : IsStmt m sc a
  pub numbered : (scope_after sc a).fresh ≤ length m.vars
  pub nested : stmt_depth a ≤ max_term_depth
  pub blocks : blocks_of a < max_block_depth

-- the statements of a block
pub record ArePartStmts (m : MethodContext) (sc : Scope) (block : s.Stmts) : Type 0 where
  pub frame : IsFrame m sc
  pub typed : AreStmts m sc block
  pub numbered : (stmts_scope sc block).fresh ≤ length m.vars
  pub nested : stmts_depth block ≤ max_term_depth
  pub blocks : block_depth block ≤ max_block_depth

-- ---- more may be said in one context than in another

-- where at least these variables are visible, and where as much may be said
pub record IsWider (c : Context) (visible : List ℕ) (site : Site) : Type 0 where
  pub sees : (x : ℕ) → Contains c.visible x → Contains visible x
  pub old : IsTrue (allows_old c.site) → IsTrue (allows_old site)
  pub outside : IsTrue (is_outside_predicates c.site) → IsTrue (is_outside_predicates site)

abbrev pub widened : Context → List ℕ → Site → Context
widened c visible site = record { program = c.program; vars = c.vars; visible = visible; site = site }

-- ---- the first variables of a context

-- where only variables below this number are visible
abbrev pub SeesBelow : Context → ℕ → Type 0
SeesBelow c n = (x : ℕ) → Contains c.visible x → x < n

-- with so many of its variables, the first
abbrev pub cut : Context → ℕ → Context
cut c n = record { program = c.program; vars = take n c.vars; visible = c.visible; site = c.site }

-- ---- other variables

-- a visible variable of the context is visible among these too, and has the same type
abbrev pub Sees : Context → List Ty → List ℕ → Type 0
Sees c us visible = (x : ℕ) (u : Ty) → Contains c.visible x → slice_get c.vars x ≡ Some u → Contains visible x × (slice_get us x ≡ Some u)

-- where at least as much may be said, with these variables of which these are visible
pub record Allows (c : Context) (us : List Ty) (visible : List ℕ) (site : Site) : Type 0 where
  pub sees : Sees c us visible
  pub old : IsTrue (allows_old c.site) → IsTrue (allows_old site)
  pub outside : IsTrue (is_outside_predicates c.site) → IsTrue (is_outside_predicates site)

abbrev pub among : Context → List Ty → List ℕ → Site → Context
among c us visible site = record { program = c.program; vars = us; visible = visible; site = site }
