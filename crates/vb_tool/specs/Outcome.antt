-- The outcome of a run: the status of the call, the two lines that are written, and the run of Boogie behind them.
use Rattle.std.specs.Prelude.{◌++◌, ℕ, List, codes, length}
use Rattle.std.specs.Fmt.{decimal}
use Rattle.vb_base.specs.Labels.{place_text, text_of}
use Rattle.viper_core.specs.Program.{Program}
use Rattle.viper_core.specs.declared.programs.Unit.{Unit}
use Rattle.viper_meaning.specs.Run.{Ran, ran}
use Rattle.viper_state.specs.Run.{Opening}
use Rattle.viper_state.specs.declared.runs.Outcome.{Outcome}
use Rattle.viper_state.specs.declared.runs.Outcome.TheVariants.{Done, Failed, Blocked, Short, Over}
use Rattle.viper_run.specs.Outcome.{outcome_of}
use Rattle.vb_tool.specs.Moved.{moved_text}
use Rattle.vb_tool.specs.declared.status.Status.{Status}
use Rattle.vb_tool.specs.declared.status.Status.TheVariants as status

abbrev pub status_of : Outcome → Status
status_of Done = status.Done
status_of (Failed label) = status.Failed label
status_of Blocked = status.Blocked
status_of Short = status.Short
status_of (Over at) = status.Over

-- how the run ended
abbrev pub end_line : Outcome → List ℕ
end_line Done = codes "// done\n"
end_line (Failed label) = codes "// failed " ++ text_of label ++ codes "\n"
end_line Blocked = codes "// blocked\n"
end_line Short = codes "// short\n"
end_line (Over at) = codes "// over " ++ place_text at ++ codes "\n"

-- how many of its choices it did not take
abbrev pub unused_line : ℕ → List ℕ
unused_line unused = codes "// unused " ++ decimal unused ++ codes "\n"

abbrev pub outcome_text : Outcome → ℕ → List ℕ
outcome_text outcome unused = end_line outcome ++ unused_line unused

-- what is written of a run: the two lines, and where it failed this text behind them
abbrev pub with_moved : Outcome → ℕ → List ℕ → List ℕ
with_moved (Failed label) unused moved = outcome_text (Failed label) unused ++ moved
with_moved Done unused moved = outcome_text Done unused
with_moved Blocked unused moved = outcome_text Blocked unused
with_moved Short unused moved = outcome_text Short unused
with_moved (Over at) unused moved = outcome_text (Over at) unused

-- the same of a run of a unit, which turns into one of Boogie
abbrev pub run_status : {X : Type 0} → Ran X → Status
run_status (ran events step left) = status_of (outcome_of step)

abbrev pub run_text : {X : Type 0} → Program → Unit → Opening → Ran X → List ℕ
run_text p w o (ran events step left) = with_moved (outcome_of step) (length left) (moved_text p w o events)
