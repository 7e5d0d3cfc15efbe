-- What the statuses of all tools have in common.
use Rattle.std.specs.Prelude.{⊤}

-- The call did its work, and its text is written; it did not, and one line says why, or that a file could not be read; a sink failed; or
-- memory was refused.
pub data Kind : Type 0 where
  Answered : Kind
  Refused : Kind
  Unread : Kind
  Unwritten : Kind
  NoMemory : Kind

-- a device failed, or memory was refused
abbrev pub IsFault : Kind → Type 0
IsFault Answered = ⊥
IsFault Refused = ⊥
IsFault Unread = ⊤
IsFault Unwritten = ⊤
IsFault NoMemory = ⊤
