-- The weight of a program: a measure of the work and the text of its translation, in which each use of a predicate or a
-- method counts the size of its body or its clauses.
use Rattle.std.specs.Prelude.{ℕ, ◌+◌, min, List, [], ◌∷◌, length, Option, None, Some, slice_get}
use Rattle.vb_base.specs.Limits.{too_heavy}
use Rattle.viper_core.specs.Expr.{Expr, Assertion}
use Rattle.viper_core.specs.Stmt.{Stmt, Var, Assign, Write, New, Call, Inhale, Exhale, Assert, Fold, Unfold, If, While, loop, FoldStmt, Stmts, skip, next}
use Rattle.viper_core.specs.Program.{Program, Predicate, Method, Body}
use Rattle.viper_core.specs.Size.{size, sizes, assertion_size, assertion_sizes}

-- what each part counts at least: one, and one for each field and each predicate, whose maps it may set
abbrev pub base_of : Program → ℕ
base_of p = 1 + length p.fields + length p.predicates

abbrev pub optional_size : ℕ → Option Expr → ℕ
optional_size base None = 0
optional_size base (Some e) = size base e

abbrev pub optional_assertion_size : ℕ → Option Assertion → ℕ
optional_assertion_size base None = 0
optional_assertion_size base (Some a) = assertion_size base a

-- the size of the body of a predicate that is folded or unfolded
abbrev pub predicate_size : ℕ → Option Predicate → ℕ
predicate_size base None = 0
predicate_size base (Some d) = optional_assertion_size base d.body

-- the sizes of the clauses of a method
abbrev pub clauses_size : ℕ → Method → ℕ
clauses_size base m = assertion_sizes base m.preconditions + assertion_sizes base m.postconditions

-- the sizes of the clauses of a method that is called
abbrev pub callee_size : ℕ → Option Method → ℕ
callee_size base None = 0
callee_size base (Some m) = clauses_size base m

abbrev pub fold_weight : Program → FoldStmt → ℕ
fold_weight p f =
    base_of p + sizes (base_of p) f.args + size (base_of p) f.amount + predicate_size (base_of p) (slice_get p.predicates f.predicate)

abbrev mutual
  pub stmt_weight : Program → Stmt → ℕ
  stmt_weight p (Var at x init) = base_of p + optional_size (base_of p) init
  stmt_weight p (Assign at x e) = base_of p + size (base_of p) e
  stmt_weight p (Write at e f place d) = base_of p + size (base_of p) e + size (base_of p) d
  stmt_weight p (New at x fields refs) = base_of p + length refs + length fields
  stmt_weight p (Call at xs m args) = base_of p + sizes (base_of p) args + callee_size (base_of p) (slice_get p.methods m)
  stmt_weight p (Inhale at a) = base_of p + assertion_size (base_of p) a
  stmt_weight p (Exhale at a) = base_of p + assertion_size (base_of p) a
  stmt_weight p (Assert at a) = base_of p + assertion_size (base_of p) a
  stmt_weight p (Fold f) = fold_weight p f
  stmt_weight p (Unfold f) = fold_weight p f
  stmt_weight p (If at e a b) = base_of p + size (base_of p) e + stmts_weight p a + stmts_weight p b
  stmt_weight p (While (loop at e is body turn targets)) =
      base_of p + size (base_of p) e + assertion_sizes (base_of p) is + length targets + stmts_weight p body

  pub stmts_weight : Program → Stmts → ℕ
  stmts_weight p skip = 0
  stmts_weight p (next s ss) = stmt_weight p s + stmts_weight p ss

-- a predicate without a body is no unit, and counts nothing
abbrev pub body_weight : ℕ → Option Assertion → ℕ
body_weight base None = 0
body_weight base (Some a) = base + assertion_size base a

abbrev pub predicate_weight : Program → Predicate → ℕ
predicate_weight p d = body_weight (base_of p) d.body

abbrev pub block_weight : Program → Option Body → ℕ
block_weight p None = 0
block_weight p (Some b) = stmts_weight p b.stmts

abbrev pub method_weight : Program → Method → ℕ
method_weight p m = base_of p + clauses_size (base_of p) m + block_weight p m.body

abbrev pub predicates_weight : Program → List Predicate → ℕ
predicates_weight p [] = 0
predicates_weight p (d ∷ ds) = predicate_weight p d + predicates_weight p ds

abbrev pub methods_weight : Program → List Method → ℕ
methods_weight p [] = 0
methods_weight p (m ∷ ms) = method_weight p m + methods_weight p ms

abbrev pub weight : Program → ℕ
weight p = predicates_weight p p.predicates + methods_weight p p.methods

-- the weight as it is told: each that is too great is told as one
abbrev pub told_weight : Program → ℕ
told_weight p = min (weight p) too_heavy
