-- Ways of writing code beside ways of going on.
use Rattle.std.proofs.Common.{◌≡◌, ℕ, List, ap}
use Rattle.vb_value.specs.Bound.{Bound}
use Rattle.vb_value.specs.Layout.{Layout}
use Rattle.viper_meaning.specs.Ends.{Evaluated}
use Rattle.viper_meaning.specs.Run.{Run, Step, Ran, ran, on, ended, evaluating, then_do}
use Rattle.boogie_tree.specs.Program.{BType}
use Rattle.boogie_tree.specs.Stmt as stmt
use Rattle.boogie_tree.specs.Value.{BChoice}
use Rattle.boogie_meaning.specs.Run as r
use Rattle.boogie_meaning.specs.Run.{brun}
use Rattle.enc_expr.specs.Code.{Emitting, join, then_emit}
use Rattle.enc_expr.specs.Coupling.{Env}
use Rattle.enc_expr.specs.Alike.{Alike}
use Rattle.enc_expr.proofs.RunLaws.{join_run}
use Rattle.enc_assert.specs.Alongside.{GoesWith, done, failed, blocked, short, over, OnMoves, AreAlongside}
use Rattle.enc_assert.proofs.AlongsideLaws.{run_alongside, ended_alongside, then_alongside}

-- ---- ways of writing beside ways of going on

module _ (W : Type 0) (ts : List BType) (b : Bound) (layout : Layout) {X Y : Type 0} (m : Emitting X) (go : X → Emitting Y) (n : ℕ) (E : Env) where
  -- an evaluation, and then a run
  pub emit_alongside : {V Z : Type 0} {Q : V → Env → Type 0} {R : Z → Env → Type 0} (a : Evaluated V) (k : V → Run Z) → ((cs : List BChoice) → Alike Q b a cs (brun ts b (m n).stmts E cs)) →
      ((z : V) (F : Env) → Q z F → AreAlongside W b layout R (k z) (λ cs. brun ts b (go (m n).value (m n).next).stmts F cs)) →
      AreAlongside W b layout R (evaluating a k) (λ cs. brun ts b (then_emit m go n).stmts E cs)
  emit_alongside a k h g =
      run_alongside W b layout (λ cs. join_run ts b (m n).stmts (go (m n).value (m n).next).stmts E cs) (then_alongside W b layout (ended a) k g (ended_alongside W b layout a h))

  -- a run, and then another
  pub emit_both : {V Z : Type 0} {Q : V → Env → Type 0} {R : Z → Env → Type 0} (v : Run V) (k : V → Run Z) → AreAlongside W b layout Q v (λ cs. brun ts b (m n).stmts E cs) →
      ((z : V) (F : Env) → Q z F → AreAlongside W b layout R (k z) (λ cs. brun ts b (go (m n).value (m n).next).stmts F cs)) →
      AreAlongside W b layout R (then_do v k) (λ cs. brun ts b (then_emit m go n).stmts E cs)
  emit_both v k h g = run_alongside W b layout (λ cs. join_run ts b (m n).stmts (go (m n).value (m n).next).stmts E cs) (then_alongside W b layout v k g h)

  -- where nothing but locals is written
  pub quiet_first : {Z : Type 0} {R : Z → Env → Type 0} {v : Run Z} → (m n).stmts ≡ stmt.skip → AreAlongside W b layout R v (λ cs. brun ts b (go (m n).value (m n).next).stmts E cs) →
      AreAlongside W b layout R v (λ cs. brun ts b (then_emit m go n).stmts E cs)
  quiet_first quiet h = run_alongside W b layout (λ cs. ap (λ xs. brun ts b (join xs (go (m n).value (m n).next).stmts) E cs) quiet) h

-- ---- where nothing is asked of runs that wait

pub along : {W : Type 0} {b : Bound} {layout : Layout} {X : Type 0} {Q : X → Env → Type 0} {v : Run X} {run : List BChoice → r.Run} → AreAlongside W b layout Q v run → AreAlongside ⊥ b layout Q v run
along {W} {b} {layout} {X} {Q} {v} {run} h = record { on_moves = λ choices more all. moved more (on v choices) (h.on_moves choices more all); each_run = h.each_run }
  where
    unasked : {more : List BChoice} {step : Step X} {to : r.Run} → GoesWith W Q b more step to → GoesWith ⊥ Q b more step to
    unasked (done q) = done q
    unasked failed = failed
    unasked (blocked w) = blocked (λ no e. absurd no)
    unasked (short w) = short (λ no e. absurd no)
    unasked (over bounded) = over bounded

    moved : (more : List BChoice) (o : Ran X) → OnMoves W Q b more run o → OnMoves ⊥ Q b more run o
    moved more (ran events step left) k = unasked k
