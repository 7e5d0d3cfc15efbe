-- The targets of a loop, and how they are gathered from a body in which each loop lists its own.
use Rattle.std.specs.Prelude.{ℕ, Bool, true, false, List, [], ◌∷◌, nat_lt, filter, if◌then◌else◌}
use Rattle.std.specs.Ordering.{nat_cmp}
use Rattle.std.specs.BTreeSet.{insert_key}
use Rattle.std.specs.List.{range_with_len}
use Rattle.viper_core.specs.Scope.{some_assigns}
use Rattle.viper_core.specs.Stmt as s

-- the variables that the body of a loop assigns and that are declared before it, where there are so many, in ascending order
abbrev pub targets : ℕ → s.Stmts → List ℕ
targets count body = filter (λ x. some_assigns x body) (range_with_len 0 count)

-- one more target, where it is a variable below this number
abbrev pub with_target : ℕ → List ℕ → ℕ → List ℕ
with_target below so_far x = if nat_lt x below then insert_key nat_cmp so_far x else so_far

abbrev pub with_targets : ℕ → List ℕ → List ℕ → List ℕ
with_targets below so_far [] = so_far
with_targets below so_far (x ∷ xs) = with_targets below (with_target below so_far x) xs

-- a loop inside assigns its own targets
abbrev mutual
  pub targets_of_stmt : ℕ → List ℕ → s.Stmt → List ℕ
  targets_of_stmt below so_far (s.Var at x init) = so_far
  targets_of_stmt below so_far (s.Assign at x a) = with_target below so_far x
  targets_of_stmt below so_far (s.Write at a f f_at b) = so_far
  targets_of_stmt below so_far (s.New at x fields refs) = with_target below so_far x
  targets_of_stmt below so_far (s.Call at xs m args) = with_targets below so_far xs
  targets_of_stmt below so_far (s.Inhale at a) = so_far
  targets_of_stmt below so_far (s.Exhale at a) = so_far
  targets_of_stmt below so_far (s.Assert at a) = so_far
  targets_of_stmt below so_far (s.Fold f) = so_far
  targets_of_stmt below so_far (s.Unfold f) = so_far
  targets_of_stmt below so_far (s.If at a b d) = targets_from below (targets_from below so_far b) d
  targets_of_stmt below so_far (s.While w) = targets_of_loop below so_far w

  pub targets_of_loop : ℕ → List ℕ → s.Loop → List ℕ
  targets_of_loop below so_far (s.loop at a is b turn targets) = with_targets below so_far targets

  pub targets_from : ℕ → List ℕ → s.Stmts → List ℕ
  targets_from below so_far s.skip = so_far
  targets_from below so_far (s.next a rest) = targets_from below (targets_of_stmt below so_far a) rest

-- what a body assigns below this number
abbrev pub gathered : ℕ → s.Stmts → List ℕ
gathered below body = targets_from below [] body

-- a list, which a lean walk leaves empty
abbrev pub listed : Bool → List ℕ → List ℕ
listed true ns = ns
listed false ns = []
