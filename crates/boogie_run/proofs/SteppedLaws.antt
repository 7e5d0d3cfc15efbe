-- Runs that go on statement by statement.
use Rattle.std.proofs.Common.{◌≡◌, refl, ap, List, [], ◌∷◌, ◌++◌, Option, Some}
use Rattle.vb_value.specs.Bound.{Bound}
use Rattle.boogie_tree.specs.Program.{BType}
use Rattle.boogie_tree.specs.Stmt.{BStmt, stmts}
use Rattle.boogie_tree.specs.Value.{BValue, BChoice}
use Rattle.boogie_meaning.specs.Run.{Run, Done, Stops, brun, brun_stmt, then_run}
use Rattle.boogie_run.specs.Runs.{why}
use Rattle.boogie_run.specs.Stepped.{ended}
use Rattle.boogie_run.specs.declared.replay_ends.ReplayStop.{ReplayStop}

goes_on : (r : Run) (f g : List BValue → List BChoice → Run) (h : List BValue → List BChoice → Run) → ((env : List BValue) (cs : List BChoice) → f env cs ≡ then_run (g env cs) h) →
    then_run r f ≡ then_run (then_run r g) h
goes_on (Done env cs) f g h is = is env cs
goes_on (Stops w cs) f g h is = refl

then_done : (r : Run) → then_run r (λ env cs. Done env cs) ≡ r
then_done (Done env cs) = refl
then_done (Stops w cs) = refl

module _ (ls : List BType) (b : Bound) where
  pub one_more : (xs : List BStmt) (x : BStmt) (env : List BValue) (cs : List BChoice) → brun ls b (stmts (xs ++ x ∷ [])) env cs ≡ then_run (brun ls b (stmts xs) env cs) (brun_stmt ls b x)
  one_more [] x env cs = then_done (brun_stmt ls b x env cs)
  one_more (y ∷ ys) x env cs =
      goes_on (brun_stmt ls b y env cs) (λ new rest. brun ls b (stmts (ys ++ x ∷ [])) new rest) (λ new rest. brun ls b (stmts ys) new rest) (brun_stmt ls b x) (λ new rest. one_more ys x new rest)

-- why it was stopped
pub was_stopped : (env : List BValue) (cs : List BChoice) {o : Option ReplayStop} (w : ReplayStop) → o ≡ Some w → ended env cs o ≡ Stops (why w) cs
was_stopped env cs w is = ap (ended env cs) is
