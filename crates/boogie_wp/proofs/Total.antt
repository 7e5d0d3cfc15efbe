-- All of a block's statements, on whichever path they stand: how the values of the locals, whether the run comes here and whether it has
-- failed at the label go on. What has no value leaves the values as they were, which it does in no typed program.
use Rattle.std.proofs.Common.{◌+◌, ℕ, Bool as Truth, false, not, ◌&&◌, ◌||◌, List, slice_get, slice_set, if◌then◌else◌}
use Rattle.sparse.specs.Map.{set}
use Rattle.vb_base.specs.declared.labels.Label.{Label}
use Rattle.vb_value.specs.Bound.{Unbounded}
use Rattle.vb_value.specs.Key.{key_cmp}
use Rattle.boogie_tree.specs.Expr as t
use Rattle.boogie_tree.specs.Stmt as s
use Rattle.boogie_tree.specs.Value.{same_scalar, BValue, Many}
use Rattle.boogie_meaning.specs.Ends.{End, Is, Over, Wrong, then_with, found}
use Rattle.boogie_meaning.specs.Operators.{as_truth}
use Rattle.boogie_meaning.specs.Value.{the_map}
use Rattle.boogie_meaning.specs.Quantified.{bvalue, bkey, side}
use Rattle.boogie_formula.specs.Choices.{slots, slots_stmt, truth_at}
use Rattle.boogie_wp.specs.Labels.{same_label}

pub record Point : Type 0 where
  pub env : List BValue
  pub path : Truth
  pub bad : Truth

abbrev pub or_else : {X : Type 0} → X → End X → X
or_else x (Is y) = y
or_else x Over = x
or_else x Wrong = x

abbrev pub truth : t.BExpr → List BValue → Truth
truth e env = or_else false (as_truth (bvalue Unbounded e env))

abbrev pub stored : ℕ → List BValue → End BValue → List BValue
stored i env e = or_else env (then_with e (λ v. Is (slice_set env i v)))

abbrev pub put : ℕ → t.BExprs → t.BExpr → List BValue → End BValue
put i es e env =
    then_with (bkey Unbounded es env) (λ k. then_with (bvalue Unbounded e env) (λ v. then_with (the_map env i) (λ m. Is (Many (set key_cmp same_scalar m k v)))))

abbrev pub held : Truth → Point → Point
held t p = record p { path = p.path && t }

abbrev pub checked : Truth → Point → Point
checked t p = record { env = p.env; path = p.path && t; bad = p.bad || (p.path && not t) }

abbrev pub joined : Truth → Point → Point → Point
joined t x y = record { env = if t then x.env else y.env; path = x.path || y.path; bad = y.bad }

abbrev pub forked : Truth → (Point → Point) → (Point → Point) → Point → Point
forked t go to p = let x = go (held t p) in joined t x (to (record { env = p.env; path = p.path && not t; bad = x.bad }))

-- k is the number of the block's first own variable
module _ (label : Label) (vs : List BValue) where
  abbrev mutual
    pub total_stmt : s.BStmt → ℕ → Point → Point
    total_stmt (s.Assign i e) k p = record p { env = stored i p.env (side Unbounded e p.env) }
    total_stmt (s.Put i es e) k p = record p { env = stored i p.env (put i es e p.env) }
    total_stmt (s.Havoc i) k p = record p { env = stored i p.env (found (slice_get vs k)) }
    total_stmt (s.Assume e) k p = held (truth e p.env) p
    total_stmt (s.Assert l e) k p = if same_label l label then checked (truth e p.env) p else held (truth e p.env) p
    total_stmt (s.If e xs ys) k p = forked (truth e p.env) (λ q. total xs k q) (λ q. total ys (k + slots xs) q) p
    total_stmt (s.Either xs ys) k p = forked (or_else false (truth_at vs k)) (λ q. total xs (k + 1) q) (λ q. total ys (k + 1 + slots xs) q) p

    pub total : s.BStmts → ℕ → Point → Point
    total s.skip k p = p
    total (s.first x xs) k p = total xs (k + slots_stmt x) (total_stmt x k p)
