-- What stands in the sinks afterwards.
use Rattle.std.specs.Prelude.{⊤, ◌≡◌, ℕ, true, false, List, Option, Result, MatchResult}
use Rattle.vb_outer.specs.Faults.{Rose}
use Rattle.vb_outer.specs.Shelf.{Files}
use Rattle.vb_outer.specs.Sink.{Appends}
use Rattle.tool_common.specs.Ends as ends
use Rattle.tool_common.specs.Ends.{OutOf, FrontWritten}
use Rattle.unit_proof.specs.declared.answers.UnitAnswer.{UnitAnswer}
use Rattle.prove_tool.specs.Call.{IsCause, StopsAt}
use Rattle.prove_tool.specs.Command.{Command}
use Rattle.prove_tool.specs.Lines.{lines_text}
use Rattle.prove_tool.specs.Status.{kind_of, line_of}
use Rattle.prove_tool.specs.Subject.{Subject, count_of}
use Rattle.prove_tool.specs.Written.{AreFirst, AreFound, Tells, Writes, Begins, HasWritten, HasBegun}
use Rattle.prove_tool.specs.declared.status.ProveStatus.{ProveStatus}
use Rattle.prove_tool.specs.declared.status.ProveStatus.TheVariants.{Done, Refused, Usage, ReadFault, WriteFault, NoMemory, Open}

-- the cause of each status
abbrev pub Causes : List (List ℕ) → Option Files → ℕ → ℕ → Type 0 → ProveStatus → Type 0
Causes words files before now SinkFailed status = ends.Causes kind_of (IsCause words files before now) SinkFailed status

-- the status, unless memory was refused or a device failed
abbrev pub EndsAs : ProveStatus → ProveStatus → Type 0
EndsAs expected status = ends.EndsAs kind_of expected status

-- what stands in the sink of the output: what the call writes, or what stood there before; after a fault of a sink, and for want of
-- memory, the front of what it writes
abbrev pub OutAfter : Option (List ℕ) → Option (List ℕ) → List (List ℕ) → Option Files → ProveStatus → Type 0
OutAfter before now words files status =
    OutOf (kind_of status) ((text : List ℕ) × HasWritten words files status text × Appends before now text) (now ≡ before)
    (FrontWritten before now (HasBegun words files)) (FrontWritten before now (HasBegun words files))

-- what stands in the sink of errors: one more line, where the status has one; after a fault of a sink the front of such a line
abbrev pub ErrAfter : Option (List ℕ) → Option (List ℕ) → (ProveStatus → Type 0) → ProveStatus → Type 0
ErrAfter before now Cause status = ends.ErrAfter kind_of line_of before now Cause status

-- ---- parts of a call

-- what writes ends with a status and such a text; or it does not come to its end, and a front of such a text is written
pub data Ends (Whole : ProveStatus → List ℕ → Type 0) (Part : List ℕ → Type 0) (before now : Option (List ℕ)) (first last : ℕ) : ProveStatus → Type 0 where
  written : {s : ProveStatus} {text : List ℕ} → Whole s text → Appends before now text → Ends Whole Part before now first last s
  unwritten : FrontWritten before now Part → Rose first last → Ends Whole Part before now first last WriteFault
  no_memory : FrontWritten before now Part → Ends Whole Part before now first last NoMemory

-- the lines of these answers
abbrev pub AreLines : List UnitAnswer → ProveStatus → List ℕ → Type 0
AreLines answers s text = Tells answers s × (text ≡ lines_text answers)

-- what is written of all units, of which one is left open where the call is not done
abbrev pub AreCertificates : Subject → ProveStatus → List ℕ → Type 0
AreCertificates program Done text = AreFound program (count_of program) true text
AreCertificates program Open text = AreFound program (count_of program) false text
AreCertificates program (Refused r) text = ⊥
AreCertificates program Usage text = ⊥
AreCertificates program ReadFault text = ⊥
AreCertificates program WriteFault text = ⊥
AreCertificates program NoMemory text = ⊥

-- the conditions of all units
abbrev pub AreConditions : Subject → ProveStatus → List ℕ → Type 0
AreConditions program s text = (s ≡ Done) × AreFirst program (count_of program) text

-- the text is any, and the call is done
abbrev pub AreValues : ProveStatus → List ℕ → Type 0
AreValues s text = s ≡ Done

-- a command is carried out; or it stops before anything is written
abbrev pub CarriesOut : Option Files → Command → ℕ → ℕ → Option (List ℕ) → Option (List ℕ) → ℕ → ℕ → Result ProveStatus ProveStatus → Type 0
CarriesOut files c read_before read_now before now first last result =
    MatchResult result (Ends (Writes files c) (Begins files c) before now first last) (λ s. StopsAt files c read_before read_now s × (now ≡ before))

-- the same of the command that words ask for
abbrev pub Answers : List (List ℕ) → Option Files → ℕ → ℕ → Option (List ℕ) → Option (List ℕ) → ℕ → ℕ → Result ProveStatus ProveStatus → Type 0
Answers words files read_before read_now before now first last result =
    MatchResult result (Ends (HasWritten words files) (HasBegun words files) before now first last)
    (λ s. ends.Stops kind_of (IsCause words files read_before read_now) s × (now ≡ before))
