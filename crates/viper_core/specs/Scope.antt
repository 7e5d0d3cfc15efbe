-- The scopes of variables: which are visible at a statement, and which its blocks declare.
use Rattle.std.specs.Prelude.{ℕ, ◌+◌, Bool, true, false, ◌||◌, ◌==◌, List, [], ◌∷◌, ◌++◌, Option, Some, slice_get, filter, if◌then◌else◌}
use Rattle.std.specs.List.{list_any}
use Rattle.vb_value.specs.declared.values.Ty.{Ty}
use Rattle.vb_value.specs.declared.values.Ty.TheVariants as ty
use Rattle.viper_core.specs.Stmt.{Stmt, Var, Assign, Write, New, Call, Inhale, Exhale, Assert, Fold, Unfold, If, While, loop, Stmts, skip, next}

pub record Scope : Type 0 where
  -- the visible variables in ascending order
  pub visible : List ℕ
  -- the number of the next variable that is declared
  pub fresh : ℕ

-- after the declaration of the next variable
abbrev pub declared : Scope → Scope
declared sc = record { visible = sc.visible ++ sc.fresh ∷ []; fresh = sc.fresh + 1 }

-- after a target: that of `var x := m()` or `var x := new()` is the next variable, which is so declared
abbrev pub after_target : Scope → ℕ → Scope
after_target sc x = if x == sc.fresh then declared sc else sc

abbrev pub after_targets : Scope → List ℕ → Scope
after_targets sc [] = sc
after_targets sc (x ∷ xs) = after_targets (after_target sc x) xs

-- after a block that began in the first scope and ended in the second: what it declared is visible no longer
abbrev pub after_block : Scope → Scope → Scope
after_block outer inner = record { visible = outer.visible; fresh = inner.fresh }

abbrev mutual
  pub scope_after : Scope → Stmt → Scope
  scope_after sc (Var at x init) = declared sc
  scope_after sc (New at x fields refs) = after_target sc x
  scope_after sc (Call at xs m args) = after_targets sc xs
  scope_after sc (If at e a b) = after_block sc (stmts_scope (after_block sc (stmts_scope sc a)) b)
  scope_after sc (While (loop at e is body turn targets)) = after_block sc (stmts_scope sc body)
  scope_after sc (Assign at x e) = sc
  scope_after sc (Write at e f place d) = sc
  scope_after sc (Inhale at a) = sc
  scope_after sc (Exhale at a) = sc
  scope_after sc (Assert at a) = sc
  scope_after sc (Fold f) = sc
  scope_after sc (Unfold f) = sc

  -- the scope at the end of the statements
  pub stmts_scope : Scope → Stmts → Scope
  stmts_scope sc skip = sc
  stmts_scope sc (next s ss) = stmts_scope (scope_after sc s) ss

-- ---- what a `new` and a loop list

abbrev pub is_ref : Option Ty → Bool
is_ref (Some ty.Ref) = true
is_ref _ = false

-- the Ref variables in scope
abbrev pub refs_in : List Ty → Scope → List ℕ
refs_in vars sc = filter (λ x. is_ref (slice_get vars x)) sc.visible

-- whether a statement assigns a variable
abbrev mutual
  pub assigns : ℕ → Stmt → Bool
  assigns x (Assign at y e) = y == x
  assigns x (New at y fields refs) = y == x
  assigns x (Call at ys m args) = list_any (λ y. y == x) ys
  assigns x (If at e a b) = some_assigns x a || some_assigns x b
  assigns x (While (loop at e is body turn targets)) = some_assigns x body
  assigns x (Var at y init) = false
  assigns x (Write at e f place d) = false
  assigns x (Inhale at a) = false
  assigns x (Exhale at a) = false
  assigns x (Assert at a) = false
  assigns x (Fold f) = false
  assigns x (Unfold f) = false

  pub some_assigns : ℕ → Stmts → Bool
  some_assigns x skip = false
  some_assigns x (next s ss) = assigns x s || some_assigns x ss

-- the targets of a loop: the variables declared outside it that its body assigns, in ascending order
abbrev pub loop_targets : Scope → Stmts → List ℕ
loop_targets sc body = filter (λ x. some_assigns x body) sc.visible
