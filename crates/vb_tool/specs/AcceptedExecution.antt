-- Which execution of a method the bytes of two files are, and why they are refused. It goes the way of a run of a unit; but the
-- text has none of the words `wildcard`, `inhale` and `assume`, and the name is that of a method that has a body.
use Rattle.std.specs.Prelude.{◌≡◌, ◌<◌, ◌≤◌, ℕ, List, length, slice_get, Some, None}
use Rattle.vb_base.specs.Limits.{max_viper_bytes}
use Rattle.vb_base.specs.declared.places.Pos.{Pos}
use Rattle.viper_core.specs.Program as p
use Rattle.viper_core.specs.declared.programs.Unit.TheVariants.{Method}
use Rattle.viper_exec_subset.specs.Unframed.{first_unframed}
use Rattle.run_file.specs.Run.{SpellsViperRun, GoesWrongAt}
use Rattle.viper_file.specs.Accepted.{IsAccepted}
use Rattle.viper_file.specs.Framed.{IsFramed}
use Rattle.vb_tool.specs.Accepted.{IsTextRefusal}
use Rattle.vb_tool.specs.Executions.{body_named, MethodRun}
use Rattle.vb_tool.specs.declared.status.Refusal.{Refusal}
use Rattle.vb_tool.specs.declared.status.Refusal.TheVariants.{Size, RunSize, Unframed, NoUnit, RunSyntax}

-- a text is refused as that of a run is, or for the first of the three words
pub data IsUnframedRefusal (bytes : List ℕ) : Refusal → Type 0 where
  of_text : {r : Refusal} → IsTextRefusal bytes r → IsUnframedRefusal bytes r
  unframed : {typed : p.Program} {at : Pos} (accepted : IsAccepted bytes typed) → first_unframed accepted.tokens ≡ Some at → IsUnframedRefusal bytes (Unframed at)

-- the bytes and the name are this execution: they are the text of its program, whose method of this name has a body, and the
-- bytes of the run file spell the run with which it begins
pub record AcceptsExecution (bytes name run_bytes : List ℕ) (u : MethodRun) : Type 0 where
  pub framed : IsFramed bytes u.program
  pub small : length run_bytes ≤ max_viper_bytes
  pub named : body_named u.program name ≡ Some u.unit
  pub is_method : slice_get u.program.units u.unit ≡ Some (Method u.number)
  pub spelled : SpellsViperRun run_bytes u.program u.unit u.run

-- `exec` refuses the bytes of its two files and the name of its method, for the first of these reasons that stands
pub data IsExecutionRefusal (bytes name run_bytes : List ℕ) : Refusal → Type 0 where
  size : max_viper_bytes < length bytes → IsExecutionRefusal bytes name run_bytes Size
  run_size : length bytes ≤ max_viper_bytes → max_viper_bytes < length run_bytes → IsExecutionRefusal bytes name run_bytes RunSize
  unread : {r : Refusal} → length bytes ≤ max_viper_bytes → length run_bytes ≤ max_viper_bytes → IsUnframedRefusal bytes r → IsExecutionRefusal bytes name run_bytes r
  no_method : {typed : p.Program} → IsFramed bytes typed → length run_bytes ≤ max_viper_bytes → body_named typed name ≡ None →
      IsExecutionRefusal bytes name run_bytes NoUnit
  run_syntax : {typed : p.Program} {unit : ℕ} {at : Pos} → IsFramed bytes typed → length run_bytes ≤ max_viper_bytes → body_named typed name ≡ Some unit →
      GoesWrongAt run_bytes typed unit at → IsExecutionRefusal bytes name run_bytes (RunSyntax at)
