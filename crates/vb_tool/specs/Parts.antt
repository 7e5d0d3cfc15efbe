-- What the parts of a call do, one after the other.
use Rattle.std.specs.Prelude.{⊤, ◌≡◌, ℕ, List, Option, Some, slice_get}
use Rattle.vb_base.specs.declared.labels.Label.{Label}
use Rattle.vb_outer.specs.Sink.{AppendsPrefix}
use Rattle.vb_gen.specs.Generated.{program_text, IsOutOfRange}
use Rattle.viper_core.specs.Formed.{IsFormed}
use Rattle.viper_core.specs.Program as p
use Rattle.viper_core.specs.View.{program_of}
use Rattle.viper_core.specs.declared.programs.Unit.{Unit}
use Rattle.boogie_run.specs.Start.{outcome_of}
use Rattle.boogie_tree.specs.Program.{Proc}
use Rattle.boogie_run.specs.declared.replaying.BOutcome.{BOutcome}
use Rattle.boogie_loops.specs.Wide.{WProgram}
use Rattle.enc_units.specs.Translates.{text_of}
use Rattle.viper_file.specs.Accepted.{IsAccepted}
use Rattle.vb_tool.specs.Accepted.{AcceptsRun}
use Rattle.vb_tool.specs.AcceptedCondition.{AcceptsCondition}
use Rattle.vb_tool.specs.AcceptedCut.{AcceptsCut}
use Rattle.vb_tool.specs.AcceptedExecution.{AcceptsExecution}
use Rattle.vb_tool.specs.AcceptedReplay.{AcceptsReplay}
use Rattle.vb_tool.specs.Command as c
use Rattle.vb_tool.specs.Conditions.{condition_text, IsCondition}
use Rattle.vb_tool.specs.Cuts.{cut_text, IsCutOfProgram}
use Rattle.vb_tool.specs.Executions.{MethodRun, execution_end, execution_status, execution_text}
use Rattle.vb_tool.specs.Outcome.{run_status, run_text}
use Rattle.vb_tool.specs.Procedures.{ProcedureRun, procedure_end}
use Rattle.vb_tool.specs.ReplayOutcome.{replay_status, replay_text}
use Rattle.tool_common.specs.Written as written
use Rattle.vb_tool.specs.Status.{kind_of}
use Rattle.vb_tool.specs.Summary.{made_text}
use Rattle.vb_tool.specs.Transfer.{IsTransferred}
use Rattle.vb_tool.specs.Units.{UnitRun, end_of}
use Rattle.vb_tool.specs.declared.outcome.Work.{Work}
use Rattle.vb_tool.specs.declared.outcome.Work.TheVariants.{Translate, Tell}
use Rattle.vb_tool.specs.declared.status.Status.{Status}
use Rattle.vb_tool.specs.declared.status.Status.TheVariants.{Done, Failed, NoMemory}
use Rattle.vb_tool.specs.declared.words.Command.{Command}
use Rattle.vb_tool.specs.declared.words.Command.TheVariants as words

-- a command as plain data
abbrev pub command_of : Command → c.Command
command_of (words.Translate file) = c.Translate file.now
command_of (words.Run file unit run_file) = c.Run file.now unit.now run_file.now
command_of (words.Replay file run_file) = c.Replay file.now run_file.now
command_of (words.Make count) = c.Make count
command_of (words.Execute file method run_file budget) = c.Execute file.now method.now run_file.now budget
command_of (words.Cut file) = c.Cut file.now
command_of (words.Condition file procedure label) = c.Condition file.now procedure.now label

-- the status of a work that is done, and the text that is written
abbrev pub work_status : Work → Status
work_status (Translate program) = Done
work_status (Tell told) = told.status

abbrev pub work_text : Work → List ℕ
work_text (Translate program) = text_of (program_of program)
work_text (Tell told) = told.text.items

-- a program that is to be translated is formed
abbrev pub CanBeWritten : Work → Type 0
CanBeWritten (Translate program) = IsFormed (program_of program)
CanBeWritten (Tell told) = ⊤

-- a text goes to the sink of the output, and the call ends with this status; but for a fault of the sink and for lack of
-- memory, after which a prefix of the text stands there
pub data Delivers (before now : Option (List ℕ)) (faults_before faults_now : ℕ) (text : List ℕ) (status : Status) : Status → Type 0 where
  of_text : {ended : Status} → written.Delivers kind_of before now faults_before faults_now text status ended → Delivers before now faults_before faults_now text status ended
  no_memory : AppendsPrefix before now text → Delivers before now faults_before faults_now text status NoMemory

-- the status and the text of the run that the bytes of two files are
pub record OutcomeOf (bytes name run_bytes : List ℕ) (status : Status) (text : List ℕ) : Type 0 where
  pub run : UnitRun
  pub accepted : AcceptsRun bytes name run_bytes run
  pub unit : Unit
  pub exists : slice_get run.program.units run.unit ≡ Some unit
  pub status_is : status ≡ run_status (end_of run)
  pub text_is : text ≡ run_text run.program unit run.run.opening (end_of run)
  pub transferred : (label : Label) → status ≡ Failed label → IsTransferred run label text

-- the same of a procedure
pub record ReplayOf (bytes run_bytes : List ℕ) (status : Status) (text : List ℕ) : Type 0 where
  pub run : ProcedureRun
  pub accepted : AcceptsReplay bytes run_bytes run
  pub outcome : BOutcome
  pub ends : outcome_of (procedure_end run) ≡ Some outcome
  pub status_is : status ≡ replay_status outcome
  pub text_is : text ≡ replay_text outcome

-- the status and the text of `make`
pub record SummaryOf (n : ℕ) (status : Status) (text : List ℕ) : Type 0 where
  pub program : p.Program
  pub in_range : IsOutOfRange n → ⊥
  pub accepted : IsAccepted (program_text n) program
  pub status_is : status ≡ Done
  pub text_is : text ≡ made_text n program

-- the status and the text of an execution
pub record ExecutionOf (bytes name run_bytes : List ℕ) (n : ℕ) (status : Status) (text : List ℕ) : Type 0 where
  pub run : MethodRun
  pub accepted : AcceptsExecution bytes name run_bytes run
  pub status_is : status ≡ execution_status (execution_end n run)
  pub text_is : text ≡ execution_text (execution_end n run)

-- the status and the text of `cut`
pub record CutOf (bytes : List ℕ) (status : Status) (text : List ℕ) : Type 0 where
  pub program : WProgram
  pub accepted : AcceptsCut bytes program
  pub status_is : status ≡ Done
  pub text_is : text ≡ cut_text program
  pub cut : IsCutOfProgram program text

-- the status and the text of `vc`
pub record ConditionOf (bytes name : List ℕ) (label : Label) (status : Status) (text : List ℕ) : Type 0 where
  pub procedure : Proc
  pub accepted : AcceptsCondition bytes name procedure
  pub status_is : status ≡ Done
  pub text_is : text ≡ condition_text procedure label
  pub condition : IsCondition procedure label text
