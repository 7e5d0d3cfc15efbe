-- What is promised of the work of one command.
use Rattle.std.specs.Prelude.{◌≡◌, ◌⊎◌, ℕ, Option, Result, Ok, Err, IfOk, IsErrOf}
use Rattle.vb_outer.specs.Faults.{Rose}
use Rattle.vb_outer.specs.Shelf.{Files, IsWhole}
use Rattle.vb_tool.specs.Call.{Misses, NamesFile, Refuses, Does, Promises}
use Rattle.vb_tool.specs.Command.{Command}
use Rattle.vb_tool.specs.Parts.{CanBeWritten, work_status, work_text}
use Rattle.vb_tool.specs.declared.outcome.Ending.{Ending}
use Rattle.vb_tool.specs.declared.outcome.Work.{Work}
use Rattle.vb_tool.specs.declared.outcome.Work.TheVariants.{Tell}
use Rattle.vb_tool.specs.declared.status.Refusal.{Refusal}
use Rattle.vb_tool.specs.declared.trouble.Trouble.{Trouble}
use Rattle.vb_tool.specs.declared.trouble.Trouble.TheVariants.{Read, Refused}

-- What becomes of a command, by the files of the shelf before and now, and the counts of its faults: the work is what the command
-- does, and can be written; a refusal is one of the command; where nothing could be read, the command names a file, and one is missing
-- or the shelf failed; and the files are as they were.
pub record Works (before now : Option Files) (first last : ℕ) (command : Command) (result : Result Work Trouble) : Type 0 where
  pub work : IfOk result (λ w. Does (IsWhole before) command (work_status w) (work_text w))
  pub promises : IfOk result (λ w. Promises (IsWhole before) command (work_status w) (work_text w))
  pub can_be_written : IfOk result (λ w. CanBeWritten w)
  pub refused : (r : Refusal) → IsErrOf result (Refused r) → Refuses (IsWhole before) command r
  pub read : IsErrOf result Read → Misses before command ⊎ Rose first last
  pub names : IsErrOf result Read → NamesFile command
  pub files : now ≡ before

-- what is told, as a work
abbrev pub told_of : Result Ending Trouble → Result Work Trouble
told_of (Ok told) = Ok (Tell told)
told_of (Err trouble) = Err trouble
