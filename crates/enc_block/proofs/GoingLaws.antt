-- Ways of writing code beside ways of going on, where a run fails on one side just as on the other. Nothing is asked of runs that
-- wait for a choice.
use Rattle.std.proofs.Common.{◌≡◌, ℕ, List, ap, sym, ◌∙◌, Some, Option}
use Rattle.vb_value.specs.Bound.{Bound}
use Rattle.vb_value.specs.Layout.{Layout}
use Rattle.viper_meaning.specs.Ends.{is, found}
use Rattle.viper_meaning.specs.Run.{Run, goes, evaluating, then_do}
use Rattle.viper_meaning.proofs.ThenLaws.{before_nothing}
use Rattle.boogie_tree.specs.Program.{BType}
use Rattle.boogie_tree.specs.Stmt.{BStmts}
use Rattle.boogie_tree.specs.Value.{BChoice}
use Rattle.boogie_meaning.specs.Run as r
use Rattle.boogie_meaning.specs.Run.{brun, Done}
use Rattle.enc_expr.specs.Code.{Emitting, then_emit}
use Rattle.enc_expr.specs.Coupling.{Env}
use Rattle.enc_expr.proofs.AlikeLaws.{is_alike}
use Rattle.enc_expr.proofs.RunLaws.{join_done, then_done}
use Rattle.enc_assert.specs.Alongside.{AreAlongside}
use Rattle.enc_assert.proofs.AlongsideLaws.{run_alongside, ended_alongside, then_alongside, same_alongside}

abbrev pub Along : {X : Type 0} → Bound → Layout → (X → Env → Type 0) → Run X → (List BChoice → r.Run) → Type 0
Along b layout Q v run = AreAlongside ⊥ b layout Q v run

module _ (ts : List BType) (b : Bound) (layout : Layout) where
  -- Code that ends at once, without a choice, in this environment.
  pub record Sets (xs : BStmts) (E F : Env) : Type 0 where
    pub done : (cs : List BChoice) → brun ts b xs E cs ≡ Done F cs

  -- such code stands in front of a run
  pub sets_along : {W X Y : Type 0} {R : W → Env → Type 0} (m : Emitting X) (go : X → Emitting Y) (n : ℕ) (E F : Env) {v : Run W} → Sets (m n).stmts E F →
      Along b layout R v (λ cs. brun ts b (go (m n).value (m n).next).stmts F cs) → Along b layout R v (λ cs. brun ts b (then_emit m go n).stmts E cs)
  sets_along m go n E F set h = run_alongside ⊥ b layout (λ cs. join_done ts b (m n).stmts (go (m n).value (m n).next).stmts E F cs cs (set.done cs)) h

-- what is there is found
pub found_along : {X W : Type 0} {b : Bound} {layout : Layout} {R : W → Env → Type 0} (o : Option X) (x : X) (k : X → Run W) {run : List BChoice → r.Run} → o ≡ Some x →
    Along b layout R (k x) run → Along b layout R (evaluating (found o) k) run
found_along {b = b} {layout} o x k there h = same_alongside ⊥ b layout (ap (λ o. evaluating (found o) k) there ∙ before_nothing (k x)) h

-- a run whose end is made into another thing
pub then_goes : {X Y : Type 0} {b : Bound} {layout : Layout} {Q : X → Env → Type 0} {R : Y → Env → Type 0} {v : Run X} {run : List BChoice → r.Run} (f : X → Y) → ((x : X) (F : Env) → Q x F → R (f x) F) →
    Along b layout Q v run → Along b layout R (then_do v (λ x. goes (f x))) run
then_goes {b = b} {layout} {Q} {R} {v} {run} f g h =
    run_alongside ⊥ b layout (λ cs. sym (then_done (run cs)))
    (then_alongside ⊥ b layout {to = λ F cs. Done F cs} v (λ x. goes (f x)) (λ x F q. ended_alongside ⊥ b layout (is (f x)) (λ cs. is_alike (g x F q))) h)
