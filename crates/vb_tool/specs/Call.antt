-- What a call of the tool does: when each status comes, and what stands in the sinks afterwards.
use Rattle.std.specs.Prelude.{⊤, ◌≡◌, ◌⊎◌, ◌<◌, ◌≤◌, ℕ, List, ◌∷◌, length, Option, Some, slice_get, Contains}
use Rattle.vb_base.specs.Limits.{max_viper_bytes, max_boogie_bytes, max_made_methods}
use Rattle.vb_gen.specs.Generated.{program_text, IsOutOfRange}
use Rattle.vb_outer.specs.Faults.{Rose}
use Rattle.vb_outer.specs.Shelf.{Files, IsMissing, IsFile, IsWhole}
use Rattle.vb_outer.specs.Sink.{Appends, AppendsPrefix}
use Rattle.vb_base.specs.declared.labels.Label.{Label}
use Rattle.viper_core.specs.Program as p
use Rattle.viper_core.specs.declared.programs.Unit.{Unit}
use Rattle.boogie_run.specs.Start.{outcome_of}
use Rattle.boogie_tree.specs.Program.{Proc}
use Rattle.boogie_run.specs.declared.replaying.BOutcome.{BOutcome}
use Rattle.boogie_loops.specs.Wide.{WProgram}
use Rattle.enc_units.specs.Translates.{text_of}
use Rattle.viper_file.specs.Accepted.{IsAccepted}
use Rattle.vb_tool.specs.Accepted.{AcceptsRun, IsRefusal, IsRunRefusal}
use Rattle.vb_tool.specs.AcceptedCondition.{AcceptsCondition, IsConditionRefusal}
use Rattle.vb_tool.specs.AcceptedCut.{AcceptsCut, IsCutRefusal}
use Rattle.vb_tool.specs.AcceptedExecution.{AcceptsExecution, IsExecutionRefusal}
use Rattle.vb_tool.specs.AcceptedReplay.{AcceptsReplay, IsReplayRefusal}
use Rattle.vb_tool.specs.Budget.{max_execution_budget}
use Rattle.vb_tool.specs.Command.{Command, Translate, Run, Replay, Make, Execute, Cut, Condition, Asks, IsNoCommand, files_of, limit_of, HasBudget}
use Rattle.vb_tool.specs.Conditions.{condition_text, IsStatement}
use Rattle.vb_tool.specs.Cuts.{cut_text, IsCutOfFile}
use Rattle.vb_tool.specs.Executions.{MethodRun, execution_end, execution_status, execution_text}
use Rattle.vb_tool.specs.Framed.{IsFramedEnd}
use Rattle.vb_tool.specs.Outcome.{run_status, run_text}
use Rattle.vb_tool.specs.Procedures.{ProcedureRun, procedure_end}
use Rattle.vb_tool.specs.ReplayOutcome.{replay_status, replay_text}
use Rattle.tool_common.specs.Ends as ends
use Rattle.tool_common.specs.Ends.{OutOf}
use Rattle.vb_tool.specs.Status.{kind_of, line_of}
use Rattle.vb_tool.specs.Summary.{made_text}
use Rattle.vb_tool.specs.Transfer.{IsTransfer}
use Rattle.vb_tool.specs.Translated.{IsTranslationOfFile, IsVerifiedByText}
use Rattle.vb_tool.specs.Units.{UnitRun, end_of}
use Rattle.vb_tool.specs.declared.status.Refusal.{Refusal}
use Rattle.vb_tool.specs.declared.status.Refusal.TheVariants.{Size, Range}
use Rattle.vb_tool.specs.declared.status.Status.{Status}
use Rattle.vb_tool.specs.declared.status.Status.TheVariants.{Done, Refused, Usage, ReadFault, Failed}

-- ---- files that are missing

-- one of these files, which are read in this order, is missing, and those before it are there and not longer than this
pub data MissesOf (files : Option Files) (limit : ℕ) : List (List ℕ) → Type 0 where
  first : {name : List ℕ} {names : List (List ℕ)} → IsMissing files name → MissesOf files limit (name ∷ names)
  later : {name : List ℕ} {names : List (List ℕ)} (bytes : List ℕ) → IsFile files name bytes → length bytes ≤ limit → MissesOf files limit names →
      MissesOf files limit (name ∷ names)

-- a file of the command is missing, and those before it are there and not too long; nothing is refused before they are read
abbrev pub Misses : Option Files → Command → Type 0
Misses files command = HasBudget command × MissesOf files (limit_of command) (files_of command)

-- the command names a file
abbrev pub NamesFile : Command → Type 0
NamesFile command = (name : List ℕ) × Contains (files_of command) name

-- ---- what a command does, where these are the bytes of files by their names

-- it is refused. A file that is too long is refused before the next one is read.
pub data Refuses (Has : List ℕ → List ℕ → Type 0) : Command → Refusal → Type 0 where
  translates : {file : List ℕ} {r : Refusal} (bytes : List ℕ) → Has file bytes → IsRefusal bytes r → Refuses Has (Translate file) r
  too_long : {file unit run_file : List ℕ} (bytes : List ℕ) → Has file bytes → max_viper_bytes < length bytes → Refuses Has (Run file unit run_file) Size
  runs : {file unit run_file : List ℕ} {r : Refusal} (bytes run_bytes : List ℕ) → Has file bytes → Has run_file run_bytes → IsRunRefusal bytes unit run_bytes r →
      Refuses Has (Run file unit run_file) r
  replay_too_long : {file run_file : List ℕ} (bytes : List ℕ) → Has file bytes → max_boogie_bytes < length bytes → Refuses Has (Replay file run_file) Size
  replays : {file run_file : List ℕ} {r : Refusal} (bytes run_bytes : List ℕ) → Has file bytes → Has run_file run_bytes → IsReplayRefusal bytes run_bytes r →
      Refuses Has (Replay file run_file) r
  makes : {n : ℕ} → IsOutOfRange n → Refuses Has (Make n) Range
  over_budget : {file method run_file : List ℕ} {n : ℕ} → max_execution_budget < n → Refuses Has (Execute file method run_file n) Range
  execution_too_long : {file method run_file : List ℕ} {n : ℕ} (bytes : List ℕ) → n ≤ max_execution_budget → Has file bytes → max_viper_bytes < length bytes →
      Refuses Has (Execute file method run_file n) Size
  executes : {file method run_file : List ℕ} {n : ℕ} {r : Refusal} (bytes run_bytes : List ℕ) → n ≤ max_execution_budget → Has file bytes → Has run_file run_bytes →
      IsExecutionRefusal bytes method run_bytes r → Refuses Has (Execute file method run_file n) r
  cuts : {file : List ℕ} {r : Refusal} (bytes : List ℕ) → Has file bytes → IsCutRefusal bytes r → Refuses Has (Cut file) r
  conditions : {file procedure : List ℕ} {label : Label} {r : Refusal} (bytes : List ℕ) → Has file bytes → IsConditionRefusal bytes procedure r →
      Refuses Has (Condition file procedure label) r

-- it is accepted, ends with this status and writes this text
pub data Does (Has : List ℕ → List ℕ → Type 0) : Command → Status → List ℕ → Type 0 where
  translated : {file : List ℕ} {program : p.Program} (bytes : List ℕ) → Has file bytes → IsAccepted bytes program → Does Has (Translate file) Done (text_of program)
  ran : {file unit run_file : List ℕ} {u : UnitRun} {w : Unit} (bytes run_bytes : List ℕ) → Has file bytes → Has run_file run_bytes → AcceptsRun bytes unit run_bytes u →
      slice_get u.program.units u.unit ≡ Some w → Does Has (Run file unit run_file) (run_status (end_of u)) (run_text u.program w u.run.opening (end_of u))
  replayed : {file run_file : List ℕ} {u : ProcedureRun} {o : BOutcome} (bytes run_bytes : List ℕ) → Has file bytes → Has run_file run_bytes → AcceptsReplay bytes run_bytes u →
      outcome_of (procedure_end u) ≡ Some o → Does Has (Replay file run_file) (replay_status o) (replay_text o)
  made : {n : ℕ} {program : p.Program} → 1 ≤ n → n ≤ max_made_methods → IsAccepted (program_text n) program → Does Has (Make n) Done (made_text n program)
  executed : {file method run_file : List ℕ} {n : ℕ} {u : MethodRun} (bytes run_bytes : List ℕ) → n ≤ max_execution_budget → Has file bytes → Has run_file run_bytes →
      AcceptsExecution bytes method run_bytes u → Does Has (Execute file method run_file n) (execution_status (execution_end n u)) (execution_text (execution_end n u))
  was_cut : {file : List ℕ} {program : WProgram} (bytes : List ℕ) → Has file bytes → AcceptsCut bytes program → Does Has (Cut file) Done (cut_text program)
  stated : {file procedure : List ℕ} {label : Label} {d : Proc} (bytes : List ℕ) → Has file bytes → AcceptsCondition bytes procedure d →
      Does Has (Condition file procedure label) Done (condition_text d label)

-- What is promised besides of the text that is written: for a file it is a translation, by which the file is verified; where a run of a unit failed, it ends with
-- a run of Boogie that fails again; an execution does not fail where no procedure of the translation does; what is written for loops and calls follows them; and
-- what is written of a procedure and a label is a condition for them.
abbrev pub Promises : (List ℕ → List ℕ → Type 0) → Command → Status → List ℕ → Type 0
Promises Has (Translate file) status text = IsTranslationOfFile Has file text × IsVerifiedByText Has file text
Promises Has (Run file unit run_file) status text = (label : Label) → status ≡ Failed label → IsTransfer Has file unit run_file label text
Promises Has (Replay file run_file) status text = ⊤
Promises Has (Make n) status text = ⊤
Promises Has (Execute file method run_file n) status text = IsFramedEnd Has file method run_file status
Promises Has (Cut file) status text = IsCutOfFile Has file text
Promises Has (Condition file procedure label) status text = IsStatement Has file procedure label text

-- The command that the words ask for does this. The bytes are those of its files; where the shelf is opaque to contracts, they
-- are any bytes.
pub record HasDone (words : List (List ℕ)) (files : Option Files) (status : Status) (text : List ℕ) : Type 0 where
  pub command : Command
  pub asked : Asks words command
  pub does : Does (IsWhole files) command status text
  pub promises : Promises (IsWhole files) command status text

-- ---- statuses

-- when a status comes, where no sink failed and there was memory; the counts are those of the shelf's faults
pub data IsCause (words : List (List ℕ)) (files : Option Files) (before now : ℕ) : Status → Type 0 where
  usage : IsNoCommand words → IsCause words files before now Usage
  read : {command : Command} → Asks words command → NamesFile command → Misses files command ⊎ Rose before now → IsCause words files before now ReadFault
  refused : {command : Command} {r : Refusal} → Asks words command → Refuses (IsWhole files) command r → IsCause words files before now (Refused r)
  done : {status : Status} {text : List ℕ} → HasDone words files status text → IsCause words files before now status

-- the cause of each status
abbrev pub Causes : List (List ℕ) → Option Files → ℕ → ℕ → Type 0 → Status → Type 0
Causes words files before now SinkFailed status = ends.Causes kind_of (IsCause words files before now) SinkFailed status

-- the status, unless memory was refused or a device failed
abbrev pub EndsAs : Status → Status → Type 0
EndsAs expected status = ends.EndsAs kind_of expected status

-- and where it ends so, this text was appended to the output
abbrev pub EndsWith : Option (List ℕ) → Option (List ℕ) → Status → List ℕ → Status → Type 0
EndsWith before now expected text status = EndsAs expected status × (status ≡ expected → Appends before now text)

-- ---- sinks

-- a whole text was appended that belongs to the status
abbrev pub Written : Option (List ℕ) → Option (List ℕ) → (Status → List ℕ → Type 0) → Status → Type 0
Written before now IsText status = (text : List ℕ) × IsText status text × Appends before now text

-- a prefix of such a text was appended, or nothing
abbrev pub FrontWritten : Option (List ℕ) → Option (List ℕ) → (Status → List ℕ → Type 0) → Type 0
FrontWritten before now IsText = (now ≡ before) ⊎ ((status : Status) × (text : List ℕ) × IsText status text × AppendsPrefix before now text)

-- what stands in the sink of the output: what the command writes, or what stood there before; after a fault of a sink, and for
-- lack of memory, a prefix of what the command writes
abbrev pub OutAfter : Option (List ℕ) → Option (List ℕ) → (Status → List ℕ → Type 0) → Status → Type 0
OutAfter before now IsText status = OutOf (kind_of status) (Written before now IsText status) (now ≡ before) (FrontWritten before now IsText) (FrontWritten before now IsText)

-- what stands in the sink of errors: one more line, where the status has one; after a fault of a sink a prefix of such a line
abbrev pub ErrAfter : Option (List ℕ) → Option (List ℕ) → (Status → Type 0) → Status → Type 0
ErrAfter before now Cause status = ends.ErrAfter kind_of line_of before now Cause status
