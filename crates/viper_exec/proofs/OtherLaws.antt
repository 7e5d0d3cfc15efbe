-- The statements in which no turn and no body begins.
use Rattle.std.proofs.Common.{◌≡◌, refl, sym, ◌∙◌, subst, ℕ}
use Rattle.vb_value.specs.Bound.{Bounded}
use Rattle.viper_core.specs.View.{stmt_of}
use Rattle.viper_core.specs.declared.stmts.Loop.{Loop}
use Rattle.viper_core.specs.declared.stmts.Stmt as stmt
use Rattle.viper_core.specs.declared.stmts.Stmt.{out-Stmt, roll-Stmt, roll-out-Stmt}
use Rattle.viper_core.specs.declared.stmts.Stmt.TheOpen.{Stmt-F}
use Rattle.viper_core.specs.declared.stmts.Stmt.TheVariants.{rolls-Var, rolls-Assign, rolls-Write, rolls-New, rolls-Call, rolls-Inhale, rolls-Exhale, rolls-Assert, rolls-Fold, rolls-Unfold, rolls-If, rolls-While}
use Rattle.viper_meaning.specs.Statements.{Activation, Configuration, run_stmt}
use Rattle.viper_exec_meaning.specs.Execution.{Bodies, keeping, exec_stmt}

module _ (bodies : Bodies) (k : Activation) (c : Configuration) (n : ℕ) where
  abbrev IsKept : stmt.Stmt → Type 0
  IsKept a = exec_stmt Bounded bodies k (stmt_of a) n c ≡ keeping n (run_stmt Bounded k (stmt_of a) c)

  others_in : (x : Stmt-F stmt.Stmt Loop) → ((at : _) (xs : _) (m : _) (args : _) → roll-Stmt x ≡ stmt.Call at xs m args → ⊥) → ((at : _) (e : _) (first : _) (second : _) → roll-Stmt x ≡ stmt.If at e first second → ⊥) →
      ((w : _) → roll-Stmt x ≡ stmt.While w → ⊥) → IsKept (roll-Stmt x)
  others_in (Stmt-F.Var at x init) call branch loop = subst IsKept (sym (rolls-Var at x init)) refl
  others_in (Stmt-F.Assign at x e) call branch loop = subst IsKept (sym (rolls-Assign at x e)) refl
  others_in (Stmt-F.Write at e f place d) call branch loop = subst IsKept (sym (rolls-Write at e f place d)) refl
  others_in (Stmt-F.New at x fields refs) call branch loop = subst IsKept (sym (rolls-New at x fields refs)) refl
  others_in (Stmt-F.Call at xs m args) call branch loop = absurd (call at xs m args (rolls-Call at xs m args))
  others_in (Stmt-F.Inhale at a) call branch loop = subst IsKept (sym (rolls-Inhale at a)) refl
  others_in (Stmt-F.Exhale at a) call branch loop = subst IsKept (sym (rolls-Exhale at a)) refl
  others_in (Stmt-F.Assert at a) call branch loop = subst IsKept (sym (rolls-Assert at a)) refl
  others_in (Stmt-F.Fold f) call branch loop = subst IsKept (sym (rolls-Fold f)) refl
  others_in (Stmt-F.Unfold f) call branch loop = subst IsKept (sym (rolls-Unfold f)) refl
  others_in (Stmt-F.If at e first second) call branch loop = absurd (branch at e first second (rolls-If at e first second))
  others_in (Stmt-F.While w) call branch loop = absurd (loop w (rolls-While w))

  pub others : (a : stmt.Stmt) → ((at : _) (xs : _) (m : _) (args : _) → a ≡ stmt.Call at xs m args → ⊥) → ((at : _) (e : _) (first : _) (second : _) → a ≡ stmt.If at e first second → ⊥) → ((w : _) → a ≡ stmt.While w → ⊥) → IsKept a
  others a call branch loop =
      let same = roll-out-Stmt a in
      subst IsKept same (others_in (out-Stmt a) (λ at xs m args e. call at xs m args (sym same ∙ e)) (λ at e first second i. branch at e first second (sym same ∙ i)) (λ w e. loop w (sym same ∙ e)))
