-- The statements of a block, one after the other.
use Rattle.std.proofs.Common.{◌≡◌, ap, ◌∙◌, ℕ, ◌+◌, ◌<◌, ◌≤◌, length, drop, get_or, List, Ok, Err}
use Rattle.lemmas.proofs.Lists.{next_item, none_at}
use Rattle.vb_value.specs.Bound.{Bounded}
use Rattle.boogie_tree.specs.Program.{BType}
use Rattle.boogie_tree.specs.Value.{BValue, BChoice}
use Rattle.boogie_tree.specs.Whole.{stmt_of, stmts_of}
use Rattle.boogie_tree.specs.declared.stmts.BStmt as stmt
use Rattle.boogie_meaning.specs.Run.{Run, Done, then_run, brun, brun_stmt}
use Rattle.boogie_run.specs.Runs.{Runs}
use Rattle.boogie_run.specs.declared.replay_ends.ReplayHalt.{ReplayHalt}
use Rattle.boogie_run.proofs.RunStepLaws.{same_run, run_goes, run_stops}

module _ (ls : List BType) (xs : List stmt.BStmt) (i : ℕ) (env : List BValue) (cs : List BChoice) (start : Run) (so_far : start ≡ brun ls Bounded (stmts_of (drop i xs)) env cs) where
  from-here : (x : stmt.BStmt) → i < length xs → x ≡ get_or xs i x → start ≡ then_run (brun_stmt ls Bounded (stmt_of x) env cs) (λ new rest. brun ls Bounded (stmts_of (drop (i + 1) xs)) new rest)
  from-here x lt here = so_far ∙ ap (λ ys. brun ls Bounded (stmts_of ys) env cs) (next_item xs i x lt here)

  pub block_goes : (x : stmt.BStmt) → i < length xs → x ≡ get_or xs i x → {new : List BValue} {rest : List BChoice} {a : Unit {0}} → Runs (brun_stmt ls Bounded (stmt_of x) env cs) new rest (Ok a) →
      start ≡ brun ls Bounded (stmts_of (drop (i + 1) xs)) new rest
  block_goes x lt here h = from-here x lt here ∙ ap (λ r. then_run r (λ new rest. brun ls Bounded (stmts_of (drop (i + 1) xs)) new rest)) (run_goes h)

  pub block_stops : (x : stmt.BStmt) → i < length xs → x ≡ get_or xs i x → {new : List BValue} {rest : List BChoice} {w : ReplayHalt} → Runs (brun_stmt ls Bounded (stmt_of x) env cs) new rest (Err w) → Runs start new rest (Err w)
  block_stops x lt here h = same_run (from-here x lt here) (run_stops (λ new rest. brun ls Bounded (stmts_of (drop (i + 1) xs)) new rest) h)

  pub block_ends : length xs ≤ i → i ≤ length xs → start ≡ Done env cs
  block_ends above below = so_far ∙ ap (λ ys. brun ls Bounded (stmts_of ys) env cs) (none_at xs i above below)
