-- The procedure of a name, of a program that is the text of a file: it alone as a program, and how a run of it ends.
use Rattle.std.specs.Prelude.{◌≡◌, ℕ, List, [], ◌∷◌, Some}
use Rattle.vb_value.specs.Bound.{Bounded}
use Rattle.boogie_tree.specs.Program.{Proc, BProgram}
use Rattle.boogie_tree.specs.Value.{BRun}
use Rattle.boogie_meaning.specs.Programs.{types_of, brun_proc}
use Rattle.boogie_run.specs.Start.{start_of, outcome_of}
use Rattle.boogie_run.specs.declared.replaying.BOutcome.{BOutcome}
use Rattle.run_file_boogie.specs.BoogieRun.{SpellsName, SpellsBoogieRun}
use Rattle.boogie_file.specs.Accepted.{Accepts}

-- the bytes are the text of a well-typed program, and its procedure of this name alone is the program that is kept
pub record IsAlone (bytes name : List ℕ) (kept : BProgram) : Type 0 where
  pub procedure : Proc
  pub accepted : Accepts bytes name procedure
  pub is_alone : kept ≡ record { procs = procedure ∷ [] }

-- a run file spells a run of this procedure, which ends so
pub record EndsSo (run_bytes : List ℕ) (procedure : Proc) (outcome : BOutcome) : Type 0 where
  pub run : BRun
  pub spelled : SpellsBoogieRun run_bytes procedure run
  pub ends : outcome_of (brun_proc Bounded procedure (start_of (types_of procedure) run.settings) run.choices) ≡ Some outcome

-- the bytes are the text of a well-typed program, and a run file names a procedure of it and spells a run of that, which ends so
pub record Replays (bytes run_bytes : List ℕ) (outcome : BOutcome) : Type 0 where
  pub name : List ℕ
  pub header : SpellsName run_bytes name
  pub procedure : Proc
  pub accepted : Accepts bytes name procedure
  pub ends : EndsSo run_bytes procedure outcome
