-- Laws of scopes.
use Rattle.std.proofs.Common.{◌<◌, ◌≤◌, ◌==◌, ◌||◌, ◌⊎◌, inl, inr, ℕ, Bool, true, false, List, [], ◌∷◌, Contains, IsTrue, if◌then◌else◌, refl, subst, arith}
use Rattle.std.proofs.lemmas.List.Elements.{Contains-append_left, Contains-push_cases}
use Rattle.std.proofs.lemmas.Bool.{eqb-true}
use Rattle.std.specs.List.{list_any}
use Rattle.vb_value.specs.declared.values.Ty.{Ty}
use Rattle.viper_core.specs.Stmt.{Stmt, Var, Assign, Write, New, Call, Inhale, Exhale, Assert, Fold, Unfold, If, While, loop, Stmts, skip, next}
use Rattle.viper_core.specs.Scope.{Scope, declared, after_target, after_targets, after_block, scope_after, stmts_scope, assigns, some_assigns}
use Rattle.viper_core.specs.Typing.{MethodContext, AreTargets, Receive, nothing, also, assigned, IsStmt, AreStmts}
use Rattle.viper_core.specs.Typing as s

-- ---- numbers of variables are given once, in ascending order

fresh-after_target : (sc : Scope) (x : ℕ) → sc.fresh ≤ (after_target sc x).fresh
fresh-after_target sc x =
    elim (x == sc.fresh) as (λ b. sc.fresh ≤ (if b then declared sc else sc).fresh) [ true ↦ omega arith | false ↦ omega arith ]

fresh-after_targets : (sc : Scope) (xs : List ℕ) → sc.fresh ≤ (after_targets sc xs).fresh
fresh-after_targets sc [] = omega arith
fresh-after_targets sc (x ∷ xs) = omega (arith, fresh-after_target sc x, fresh-after_targets (after_target sc x) xs)

mutual
  pub fresh-scope_after : (sc : Scope) (s : Stmt) → sc.fresh ≤ (scope_after sc s).fresh
  fresh-scope_after sc (Var at x init) = omega arith
  fresh-scope_after sc (New at x fields refs) = fresh-after_target sc x
  fresh-scope_after sc (Call at xs m args) = fresh-after_targets sc xs
  fresh-scope_after sc (If at e a b) =
      omega (arith, fresh-stmts_scope sc a, fresh-stmts_scope (after_block sc (stmts_scope sc a)) b)
  fresh-scope_after sc (While (loop at e is body turn targets)) = fresh-stmts_scope sc body
  fresh-scope_after sc (Assign at x e) = omega arith
  fresh-scope_after sc (Write at e f place d) = omega arith
  fresh-scope_after sc (Inhale at a) = omega arith
  fresh-scope_after sc (Exhale at a) = omega arith
  fresh-scope_after sc (Assert at a) = omega arith
  fresh-scope_after sc (Fold f) = omega arith
  fresh-scope_after sc (Unfold f) = omega arith

  pub fresh-stmts_scope : (sc : Scope) (ss : Stmts) → sc.fresh ≤ (stmts_scope sc ss).fresh
  fresh-stmts_scope sc skip = omega arith
  fresh-stmts_scope sc (next s ss) = omega (arith, fresh-scope_after sc s, fresh-stmts_scope (scope_after sc s) ss)

-- ---- what is visible later was visible before, or is new

abbrev pub IsOldOrNew : Scope → ℕ → Type 0
IsOldOrNew sc x = Contains sc.visible x ⊎ (sc.fresh ≤ x)

later_old_or_new : {x : ℕ} (sc later : Scope) → ((y : ℕ) → Contains later.visible y → IsOldOrNew sc y) → sc.fresh ≤ later.fresh → IsOldOrNew later x → IsOldOrNew sc x
later_old_or_new {x} sc later known le (inl seen) = known x seen
later_old_or_new {x} sc later known le (inr new) = inr (omega (arith, le, new))

visible-declared : (sc : Scope) (x : ℕ) → Contains (declared sc).visible x → IsOldOrNew sc x
visible-declared sc x seen =
    elim (Contains-push_cases sc.visible sc.fresh x seen) [ inl old ↦ inl old | inr is ↦ inr (omega (arith, is)) ]

visible-after_target : (sc : Scope) (y x : ℕ) → Contains (after_target sc y).visible x → IsOldOrNew sc x
visible-after_target sc y x =
    elim (y == sc.fresh) as (λ b. Contains (if b then declared sc else sc).visible x → IsOldOrNew sc x) [
      | true ↦ visible-declared sc x
      | false ↦ λ seen. inl seen
    ]

visible-after_targets : (sc : Scope) (ys : List ℕ) (x : ℕ) → Contains (after_targets sc ys).visible x → IsOldOrNew sc x
visible-after_targets sc [] x seen = inl seen
visible-after_targets sc (y ∷ ys) x seen =
    later_old_or_new sc (after_target sc y) (visible-after_target sc y) (fresh-after_target sc y) (visible-after_targets (after_target sc y) ys x seen)

pub visible-scope_after : (sc : Scope) (s : Stmt) (x : ℕ) → Contains (scope_after sc s).visible x → IsOldOrNew sc x
visible-scope_after sc (Var at y init) x seen = visible-declared sc x seen
visible-scope_after sc (New at y fields refs) x seen = visible-after_target sc y x seen
visible-scope_after sc (Call at ys m args) x seen = visible-after_targets sc ys x seen
visible-scope_after sc (If at e a b) x seen = inl seen
visible-scope_after sc (While (loop at e is body turn targets)) x seen = inl seen
visible-scope_after sc (Assign at y e) x seen = inl seen
visible-scope_after sc (Write at e f place d) x seen = inl seen
visible-scope_after sc (Inhale at a) x seen = inl seen
visible-scope_after sc (Exhale at a) x seen = inl seen
visible-scope_after sc (Assert at a) x seen = inl seen
visible-scope_after sc (Fold f) x seen = inl seen
visible-scope_after sc (Unfold f) x seen = inl seen

-- what is seen from a later scope is seen from an earlier one, or new there
pub earlier : {x : ℕ} (sc : Scope) (s : Stmt) → IsOldOrNew (scope_after sc s) x → IsOldOrNew sc x
earlier sc s = later_old_or_new sc (scope_after sc s) (visible-scope_after sc s) (fresh-scope_after sc s)

-- ---- what typed statements assign is visible before them, or declared by them

pub either : {X : Type 0} (a b : Bool) → (IsTrue a → X) → (IsTrue b → X) → IsTrue (a || b) → X
either true b f g h = f refl
either false b f g h = g h

assigned_of : (m : MethodContext) (sc : Scope) (x : ℕ) {xs : List ℕ} {us : List Ty} → AreTargets m sc xs us → IsTrue (list_any (λ y. y == x) xs) → IsOldOrNew sc x
assigned_of m sc x nothing h = absurd (cc)
assigned_of m sc x (also {x = y} {xs = ys} target rest) h =
    either (y == x) (list_any (λ z. z == x) ys)
    (λ is. inl (subst (Contains sc.visible) (eqb-true y x is) target.visible)) (assigned_of m sc x rest) h

received : (m : MethodContext) (sc : Scope) (x : ℕ) {xs : List ℕ} {us : List Ty} → Receive m sc xs us → IsTrue (list_any (λ y. y == x) xs) → IsOldOrNew sc x
received m sc x (assigned targets differ) h = assigned_of m sc x targets h
received m sc x (s.declared {x = y} is typed) h =
    either (y == x) false (λ same. inr (omega (arith, eqb-true y x same, is))) (λ wrong. absurd (cc)) h

pub either_left : (b : Bool) → IsTrue b → IsTrue (b || false)
either_left true h = refl
either_left false h = h

outer : {x : ℕ} (sc inner : Scope) → sc.fresh ≤ inner.fresh → IsOldOrNew (after_block sc inner) x → IsOldOrNew sc x
outer sc inner le (inl seen) = inl seen
outer sc inner le (inr new) = inr (omega (arith, le, new))

mutual
  pub assigned_old_or_new : {m : MethodContext} {sc : Scope} {s : Stmt} (x : ℕ) → IsStmt m sc s → IsTrue (assigns x s) → IsOldOrNew sc x
  assigned_old_or_new x (s.assigns {x = y} target h) is = inl (subst (Contains _) (eqb-true y x is) target.visible)
  assigned_old_or_new {m} {sc} x (s.creates {x = y} into fields refs) is = received m sc x into (either_left (y == x) is)
  assigned_old_or_new {m} {sc} x (s.calls callee exists args into) is = received m sc x into is
  assigned_old_or_new {m} {sc} x (s.branches {then_block = a} {else_block = b} h first second) is =
      either (some_assigns x a) (some_assigns x b) (some_old_or_new x first)
      (λ in_second. outer sc (stmts_scope sc a) (fresh-stmts_scope sc a) (some_old_or_new x second in_second)) is
  assigned_old_or_new x (s.loops guard invariants body targets) is = some_old_or_new x body is
  assigned_old_or_new x (s.declares is typed) wrong = absurd (cc)
  assigned_old_or_new x (s.initial is typed h) wrong = absurd (cc)
  assigned_old_or_new x (s.writes h field d) wrong = absurd (cc)
  assigned_old_or_new x (s.inhales h) wrong = absurd (cc)
  assigned_old_or_new x (s.exhales h) wrong = absurd (cc)
  assigned_old_or_new x (s.asserts h) wrong = absurd (cc)
  assigned_old_or_new x (s.folds h) wrong = absurd (cc)
  assigned_old_or_new x (s.unfolds h) wrong = absurd (cc)

  pub some_old_or_new : {m : MethodContext} {sc : Scope} {ss : Stmts} (x : ℕ) → AreStmts m sc ss → IsTrue (some_assigns x ss) → IsOldOrNew sc x
  some_old_or_new x s.ends wrong = absurd (cc)
  some_old_or_new {m} {sc} x (s.goes_on {a = a} {rest = rest} first more) is =
      either (assigns x a) (some_assigns x rest) (assigned_old_or_new x first)
      (λ in_rest. earlier sc a (some_old_or_new x more in_rest)) is

-- ---- what is visible was numbered

abbrev pub AreNumbered : Scope → Type 0
AreNumbered sc = (x : ℕ) → Contains sc.visible x → x < sc.fresh

numbered-declared : (sc : Scope) → AreNumbered sc → AreNumbered (declared sc)
numbered-declared sc h x seen =
    elim (Contains-push_cases sc.visible sc.fresh x seen) [ inl old ↦ omega (arith, h x old) | inr is ↦ omega (arith, is) ]

numbered-after_target : (sc : Scope) (y : ℕ) → AreNumbered sc → AreNumbered (after_target sc y)
numbered-after_target sc y h =
    elim (y == sc.fresh) as (λ b. AreNumbered (if b then declared sc else sc)) [ true ↦ numbered-declared sc h | false ↦ h ]

numbered-after_targets : (sc : Scope) (ys : List ℕ) → AreNumbered sc → AreNumbered (after_targets sc ys)
numbered-after_targets sc [] h = h
numbered-after_targets sc (y ∷ ys) h = numbered-after_targets (after_target sc y) ys (numbered-after_target sc y h)

pub numbered-after_block : (sc inner : Scope) → sc.fresh ≤ inner.fresh → AreNumbered sc → AreNumbered (after_block sc inner)
numbered-after_block sc inner le h x seen = omega (arith, le, h x seen)

pub numbered-scope_after : (sc : Scope) (s : Stmt) → AreNumbered sc → AreNumbered (scope_after sc s)
numbered-scope_after sc (Var at y init) h = numbered-declared sc h
numbered-scope_after sc (New at y fields refs) h = numbered-after_target sc y h
numbered-scope_after sc (Call at ys m args) h = numbered-after_targets sc ys h
numbered-scope_after sc (If at e a b) h =
    let middle = after_block sc (stmts_scope sc a) in
    let le : sc.fresh ≤ (stmts_scope middle b).fresh = omega (arith, fresh-stmts_scope sc a, fresh-stmts_scope middle b) in
    numbered-after_block sc (stmts_scope middle b) le h
numbered-scope_after sc (While (loop at e is body turn targets)) h = numbered-after_block sc (stmts_scope sc body) (fresh-stmts_scope sc body) h
numbered-scope_after sc (Assign at y e) h = h
numbered-scope_after sc (Write at e f place d) h = h
numbered-scope_after sc (Inhale at a) h = h
numbered-scope_after sc (Exhale at a) h = h
numbered-scope_after sc (Assert at a) h = h
numbered-scope_after sc (Fold f) h = h
numbered-scope_after sc (Unfold f) h = h

-- ---- what is visible stays so to the end of its block

later-declared : (sc : Scope) (x : ℕ) → Contains sc.visible x → Contains (declared sc).visible x
later-declared sc x seen = Contains-append_left sc.visible (sc.fresh ∷ []) x seen

later-after_target : (sc : Scope) (y x : ℕ) → Contains sc.visible x → Contains (after_target sc y).visible x
later-after_target sc y x seen =
    elim (y == sc.fresh) as (λ b. Contains (if b then declared sc else sc).visible x) [ true ↦ later-declared sc x seen | false ↦ seen ]

later-after_targets : (sc : Scope) (ys : List ℕ) (x : ℕ) → Contains sc.visible x → Contains (after_targets sc ys).visible x
later-after_targets sc [] x seen = seen
later-after_targets sc (y ∷ ys) x seen = later-after_targets (after_target sc y) ys x (later-after_target sc y x seen)

pub later-scope_after : (sc : Scope) (s : Stmt) (x : ℕ) → Contains sc.visible x → Contains (scope_after sc s).visible x
later-scope_after sc (Var at y init) x seen = later-declared sc x seen
later-scope_after sc (New at y fields refs) x seen = later-after_target sc y x seen
later-scope_after sc (Call at ys m args) x seen = later-after_targets sc ys x seen
later-scope_after sc (If at e a b) x seen = seen
later-scope_after sc (While (loop at e is body turn targets)) x seen = seen
later-scope_after sc (Assign at y e) x seen = seen
later-scope_after sc (Write at e f place d) x seen = seen
later-scope_after sc (Inhale at a) x seen = seen
later-scope_after sc (Exhale at a) x seen = seen
later-scope_after sc (Assert at a) x seen = seen
later-scope_after sc (Fold f) x seen = seen
later-scope_after sc (Unfold f) x seen = seen

pub later-stmts_scope : (sc : Scope) (ss : Stmts) (x : ℕ) → Contains sc.visible x → Contains (stmts_scope sc ss).visible x
later-stmts_scope sc skip x seen = seen
later-stmts_scope sc (next s ss) x seen = later-stmts_scope (scope_after sc s) ss x (later-scope_after sc s x seen)
