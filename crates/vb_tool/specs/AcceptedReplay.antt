-- Which run of a procedure the bytes of two files are, the text of a program of Boogie and a run file, and why they are
-- refused. Each step continues from the one before: bytes spell a program, the program is well-typed, the header of the run
-- file names one of its procedures, and the run file spells a run of that.
use Rattle.std.specs.Prelude.{◌≡◌, ◌<◌, ◌≤◌, ℕ, List, length, slice_get, Some, None}
use Rattle.vb_base.specs.Limits.{max_boogie_bytes}
use Rattle.vb_base.specs.declared.places.Pos.{Pos}
use Rattle.boogie_tree.specs.Program.{Proc, BProgram}
use Rattle.boogie_tree.specs.Value.{BRun}
use Rattle.boogie_meaning.specs.Programs.{types_of}
use Rattle.boogie_file.specs.Accepted.{IsBoogie, procedure_named, IsTextRefusal}
use Rattle.boogie_file.specs.declared.refusal.BoogieRefusal as b
use Rattle.boogie_run.specs.Start.{start_of}
use Rattle.run_file_boogie.specs.BoogieRun.{SpellsName, NamesNothingAt, SpellsBoogieRun, GoesWrongAt}
use Rattle.vb_tool.specs.Procedures.{ProcedureRun}
use Rattle.vb_tool.specs.BoogieRefusals.{refusal_of_boogie}
use Rattle.vb_tool.specs.declared.status.Refusal.{Refusal}
use Rattle.vb_tool.specs.declared.status.Refusal.TheVariants.{Size, RunSize, NoProcedure, RunSyntax}

-- the run file names this procedure of the program
pub record NamesProcedure (run_bytes : List ℕ) (program : BProgram) (procedure : Proc) : Type 0 where
  pub name : List ℕ
  pub header : SpellsName run_bytes name
  pub number : ℕ
  pub named : procedure_named program name ≡ Some number
  pub is_there : slice_get program.procs number ≡ Some procedure

-- The bytes of the two files are this run of a procedure. It begins with the values that the run file gives, and with
-- defaults elsewhere.
pub record AcceptsReplay (bytes run_bytes : List ℕ) (u : ProcedureRun) : Type 0 where
  pub accepted : IsBoogie bytes u.program
  pub small : length run_bytes ≤ max_boogie_bytes
  pub names : NamesProcedure run_bytes u.program u.procedure
  pub run : BRun
  pub spelled : SpellsBoogieRun run_bytes u.procedure run
  pub begins : u.environment ≡ start_of (types_of u.procedure) run.settings
  pub takes : u.choices ≡ run.choices

-- ---- refusals

-- a text is refused as that of a file of Boogie is
pub data IsBoogieRefusal (bytes : List ℕ) : Refusal → Type 0 where
  of_boogie : {r : b.BoogieRefusal} → IsTextRefusal bytes r → IsBoogieRefusal bytes (refusal_of_boogie r)

-- a run file is refused for its header, because the program has no procedure of that name, or for its other lines
pub data IsBoogieRunRefusal (program : BProgram) (run_bytes : List ℕ) : Refusal → Type 0 where
  header : {at : Pos} → NamesNothingAt run_bytes at → IsBoogieRunRefusal program run_bytes (RunSyntax at)
  no_procedure : {name : List ℕ} → SpellsName run_bytes name → procedure_named program name ≡ None → IsBoogieRunRefusal program run_bytes NoProcedure
  run_syntax : {procedure : Proc} {at : Pos} → NamesProcedure run_bytes program procedure → GoesWrongAt run_bytes procedure at →
      IsBoogieRunRefusal program run_bytes (RunSyntax at)

-- `replay` refuses the bytes of its two files, for the first of these reasons that stands
pub data IsReplayRefusal (bytes run_bytes : List ℕ) : Refusal → Type 0 where
  size : max_boogie_bytes < length bytes → IsReplayRefusal bytes run_bytes Size
  run_size : length bytes ≤ max_boogie_bytes → max_boogie_bytes < length run_bytes → IsReplayRefusal bytes run_bytes RunSize
  of_text : {r : Refusal} → length bytes ≤ max_boogie_bytes → length run_bytes ≤ max_boogie_bytes → IsBoogieRefusal bytes r → IsReplayRefusal bytes run_bytes r
  of_run : {program : BProgram} {r : Refusal} → IsBoogie bytes program → length run_bytes ≤ max_boogie_bytes → IsBoogieRunRefusal program run_bytes r →
      IsReplayRefusal bytes run_bytes r
