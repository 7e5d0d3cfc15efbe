-- What typed statements assign is a variable of their method.
use Rattle.std.proofs.Common.{◌≡◌, ◌∙◌, ◌==◌, ℕ, false, List, Some, All, IsTrue, slice_get, sym, ap, subst}
use Rattle.std.proofs.lemmas.Bool.{eqb-true}
use Rattle.std.proofs.lemmas.List.Elements.{filter_passes}
use Rattle.std.specs.List.{list_any}
use Rattle.vb_value.specs.declared.values.Ty.{Ty}
use Rattle.viper_core.specs.Scope.{Scope, assigns, some_assigns, loop_targets}
use Rattle.viper_core.specs.Stmt.{Stmt, Stmts}
use Rattle.viper_core.specs.Typing.{MethodContext, IsVariable, AreTargets, nothing, also, Receive, assigned, declared, IsStmt, AreStmts}
use Rattle.viper_core.specs.Typing as s
use Rattle.viper_core.proofs.ScopeLaws.{either, either_left}

renamed : (m : MethodContext) (y x : ℕ) {u : Ty} → slice_get m.vars y ≡ Some u → IsTrue (y == x) → IsVariable m x
renamed m y x {u} typed same = (u, ap (slice_get m.vars) (sym (eqb-true y x same)) ∙ typed)

target_exists : {m : MethodContext} {sc : Scope} (x : ℕ) {xs : List ℕ} {us : List Ty} → AreTargets m sc xs us → IsTrue (list_any (λ y. y == x) xs) → IsVariable m x
target_exists x nothing wrong = absurd (cc)
target_exists {m} x (also {x = y} {xs = ys} target rest) is =
    either (y == x) (list_any (λ z. z == x) ys) (renamed m y x target.typed) (target_exists x rest) is

received_exists : {m : MethodContext} {sc : Scope} (x : ℕ) {xs : List ℕ} {us : List Ty} → Receive m sc xs us → IsTrue (list_any (λ y. y == x) xs) → IsVariable m x
received_exists x (assigned targets differ) is = target_exists x targets is
received_exists {m} x (declared {x = y} fresh typed) is = either (y == x) false (renamed m y x typed) (λ wrong. absurd (cc)) is

mutual
  pub assigned_exists : {m : MethodContext} {sc : Scope} {a : Stmt} (x : ℕ) → IsStmt m sc a → IsTrue (assigns x a) → IsVariable m x
  assigned_exists {m} x (s.assigns {x = y} target h) is = renamed m y x target.typed is
  assigned_exists x (s.creates {x = y} into fields refs) is = received_exists x into (either_left (y == x) is)
  assigned_exists x (s.calls callee exists args into) is = received_exists x into is
  assigned_exists x (s.branches {then_block = a} {else_block = b} h first second) is =
      either (some_assigns x a) (some_assigns x b) (some_assigned_exists x first) (some_assigned_exists x second) is
  assigned_exists x (s.loops guard invariants body targets) is = some_assigned_exists x body is
  assigned_exists x (s.declares fresh typed) wrong = absurd (cc)
  assigned_exists x (s.initial fresh typed h) wrong = absurd (cc)
  assigned_exists x (s.writes h field d) wrong = absurd (cc)
  assigned_exists x (s.inhales h) wrong = absurd (cc)
  assigned_exists x (s.exhales h) wrong = absurd (cc)
  assigned_exists x (s.asserts h) wrong = absurd (cc)
  assigned_exists x (s.folds h) wrong = absurd (cc)
  assigned_exists x (s.unfolds h) wrong = absurd (cc)

  pub some_assigned_exists : {m : MethodContext} {sc : Scope} {ss : Stmts} (x : ℕ) → AreStmts m sc ss → IsTrue (some_assigns x ss) → IsVariable m x
  some_assigned_exists x s.ends wrong = absurd (cc)
  some_assigned_exists x (s.goes_on {a = a} {rest = rest} first more) is =
      either (assigns x a) (some_assigns x rest) (assigned_exists x first) (some_assigned_exists x more) is

-- the targets of a loop are variables of the method
pub targets_exist : {m : MethodContext} {sc : Scope} {body : Stmts} {targets : List ℕ} → AreStmts m sc body → targets ≡ loop_targets sc body → All (IsVariable m) targets
targets_exist {m} {sc} {body} h same =
    subst (All (IsVariable m)) (sym same) (λ k x within. some_assigned_exists _ h (filter_passes (λ x. some_assigns x body) sc.visible k x within))
