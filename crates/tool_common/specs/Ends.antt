-- When each status comes, and what stands in the sinks afterwards, of a tool whose statuses have these kinds and these lines.
use Rattle.std.specs.Prelude.{⊤, ◌≡◌, ◌⊎◌, ℕ, List, Option}
use Rattle.vb_outer.specs.Sink.{Appends, AppendsPrefix}
use Rattle.tool_common.specs.Kind.{Kind, Answered, Refused, Unread, Unwritten, NoMemory, IsFault}

-- ---- statuses

-- the cause of a status of this kind: a fault of a sink where one failed, and none for lack of memory
abbrev pub CauseOf : Kind → Type 0 → Type 0 → Type 0
CauseOf Answered SinkFailed Cause = Cause
CauseOf Refused SinkFailed Cause = Cause
CauseOf Unread SinkFailed Cause = Cause
CauseOf Unwritten SinkFailed Cause = SinkFailed
CauseOf NoMemory SinkFailed Cause = ⊤

-- the cause of each status, where this is its cause if no sink failed and there was memory
abbrev pub Causes : {S : Type 0} → (S → Kind) → (S → Type 0) → Type 0 → S → Type 0
Causes kind Cause SinkFailed s = CauseOf (kind s) SinkFailed (Cause s)

-- the status, unless memory was refused or a device failed
pub data EndsAs {S : Type 0} (kind : S → Kind) (expected : S) : S → Type 0 where
  as_expected : EndsAs kind expected expected
  fault : {s : S} → IsFault (kind s) → EndsAs kind expected s

-- a call that has no text to write stops with a status of this kind, which has its cause
abbrev pub StopOf : Kind → Type 0 → Type 0
StopOf Answered Cause = ⊥
StopOf Refused Cause = Cause
StopOf Unread Cause = Cause
StopOf Unwritten Cause = ⊥
StopOf NoMemory Cause = ⊤

-- the status of such a call
abbrev pub Stops : {S : Type 0} → (S → Kind) → (S → Type 0) → S → Type 0
Stops kind Cause s = StopOf (kind s) (Cause s)

-- ---- sinks

-- a prefix of such a text was appended, or nothing
abbrev pub FrontWritten : Option (List ℕ) → Option (List ℕ) → (List ℕ → Type 0) → Type 0
FrontWritten before now IsText = (now ≡ before) ⊎ ((text : List ℕ) × IsText text × AppendsPrefix before now text)

-- what stands in the sink of the output after a status of this kind: the whole text, what stood there before, or what may stand there
-- after a fault of a sink, and for lack of memory
abbrev pub OutOf : Kind → Type 0 → Type 0 → Type 0 → Type 0 → Type 0
OutOf Answered Whole Same Unfinished Forgotten = Whole
OutOf Refused Whole Same Unfinished Forgotten = Same
OutOf Unread Whole Same Unfinished Forgotten = Same
OutOf Unwritten Whole Same Unfinished Forgotten = Unfinished
OutOf NoMemory Whole Same Unfinished Forgotten = Forgotten

-- what stands in the sink of errors after a status of this kind: its line, what stood there before, or after a fault of a sink a
-- prefix of such a line
abbrev pub ErrOf : Kind → Type 0 → Type 0 → Type 0 → Type 0
ErrOf Answered Line Same Front = Same
ErrOf Refused Line Same Front = Line
ErrOf Unread Line Same Front = Line
ErrOf Unwritten Line Same Front = Front
ErrOf NoMemory Line Same Front = Same

-- what stands in the sink of errors: one more line, where the status has one; after a fault of a sink a prefix of such a line
abbrev pub ErrAfter : {S : Type 0} → (S → Kind) → (S → List ℕ) → Option (List ℕ) → Option (List ℕ) → (S → Type 0) → S → Type 0
ErrAfter {S} kind line before now Cause s =
    ErrOf (kind s) (Appends before now (line s)) (now ≡ before) ((now ≡ before) ⊎ ((status : S) × Cause status × AppendsPrefix before now (line status)))
