-- How deep trees are nested.
use Rattle.std.specs.Prelude.{ℕ, ◌+◌, max, List, [], ◌∷◌, Option, None, Some}
use Rattle.viper_core.specs.Expr as t
use Rattle.viper_core.specs.Stmt as s

-- A tree without parts has depth 1. The copy of a predicate's body in an `unfolding` does not count.
abbrev mutual
  pub depth : t.Expr → ℕ
  depth (t.Var x) = 1
  depth (t.Int n) = 1
  depth (t.Bool b) = 1
  depth t.Null = 1
  depth (t.Part q) = 1
  depth (t.Neg a) = 1 + depth a
  depth (t.Not a) = 1 + depth a
  depth (t.Bin o a b at) = 1 + max (depth a) (depth b)
  depth (t.Choose a b c) = 1 + max (depth a) (max (depth b) (depth c))
  depth (t.Field a f at) = 1 + depth a
  depth (t.Old a) = 1 + depth a
  depth (t.Unfolding (t.opened p args m body inner at)) = 1 + max (depths args) (max (depth m) (depth inner))

  -- the deepest of these, 0 where there is none
  pub depths : t.Exprs → ℕ
  depths t.none = 0
  depths (t.more a rest) = max (depth a) (depths rest)

-- an amount that is a literal permission adds no level, since it may have been left out
abbrev pub amount_depth : t.Expr → ℕ
amount_depth (t.Part q) = 0
amount_depth a = depth a

abbrev pub amt_depth : t.Amt → ℕ
amt_depth (t.Is a) = amount_depth a
amt_depth t.Wildcard = 1

-- an expression that is used as an assertion adds no level
abbrev pub assertion_depth : t.Assertion → ℕ
assertion_depth (t.Fact a at) = depth a
assertion_depth (t.Acc a f m at) = 1 + max (depth a) (amt_depth m)
assertion_depth (t.Inst p args m at) = 1 + max (depths args) (amt_depth m)
assertion_depth (t.And a b) = 1 + max (assertion_depth a) (assertion_depth b)
assertion_depth (t.Implies a b) = 1 + max (depth a) (assertion_depth b)
assertion_depth (t.ChooseAssertion a b c) = 1 + max (depth a) (max (assertion_depth b) (assertion_depth c))

-- the deepest of clauses or invariants
abbrev pub assertion_depths : List t.Assertion → ℕ
assertion_depths [] = 0
assertion_depths (a ∷ rest) = max (assertion_depth a) (assertion_depths rest)

abbrev pub initial_depth : Option t.Expr → ℕ
initial_depth None = 0
initial_depth (Some a) = depth a

abbrev pub fold_depth : s.FoldStmt → ℕ
fold_depth f = max (depths f.args) (amount_depth f.amount)

-- the deepest expression or assertion of a statement
abbrev mutual
  pub stmt_depth : s.Stmt → ℕ
  stmt_depth (s.Var at x init) = initial_depth init
  stmt_depth (s.Assign at x a) = depth a
  stmt_depth (s.Write at a f place b) = max (depth a) (depth b)
  stmt_depth (s.New at x fields refs) = 0
  stmt_depth (s.Call at xs m args) = depths args
  stmt_depth (s.Inhale at a) = assertion_depth a
  stmt_depth (s.Exhale at a) = assertion_depth a
  stmt_depth (s.Assert at a) = assertion_depth a
  stmt_depth (s.Fold f) = fold_depth f
  stmt_depth (s.Unfold f) = fold_depth f
  stmt_depth (s.If at c a b) = max (depth c) (max (stmts_depth a) (stmts_depth b))
  stmt_depth (s.While (s.loop at c is body turn targets)) = max (depth c) (max (assertion_depths is) (stmts_depth body))

  pub stmts_depth : s.Stmts → ℕ
  stmts_depth s.skip = 0
  stmts_depth (s.next a rest) = max (stmt_depth a) (stmts_depth rest)

-- the deepest block inside a statement
abbrev mutual
  pub blocks_of : s.Stmt → ℕ
  blocks_of (s.If at c a b) = 1 + max (blocks_in a) (blocks_in b)
  blocks_of (s.While (s.loop at c is body turn targets)) = 1 + blocks_in body
  blocks_of (s.Var at x init) = 0
  blocks_of (s.Assign at x a) = 0
  blocks_of (s.Write at a f place b) = 0
  blocks_of (s.New at x fields refs) = 0
  blocks_of (s.Call at xs m args) = 0
  blocks_of (s.Inhale at a) = 0
  blocks_of (s.Exhale at a) = 0
  blocks_of (s.Assert at a) = 0
  blocks_of (s.Fold f) = 0
  blocks_of (s.Unfold f) = 0

  pub blocks_in : s.Stmts → ℕ
  blocks_in s.skip = 0
  blocks_in (s.next a rest) = max (blocks_of a) (blocks_in rest)

-- How deep blocks are nested: a block is one level deeper than the deepest in it. An `elseif` is an `if` in the second
-- block, so the blocks of each `elseif` are one level deeper than those before it.
abbrev pub block_depth : s.Stmts → ℕ
block_depth body = 1 + blocks_in body
