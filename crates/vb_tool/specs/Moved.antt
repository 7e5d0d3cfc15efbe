-- The run of Boogie that a run of a unit turns into, and its text.
use Rattle.std.specs.Prelude.{ℕ, List}
use Rattle.viper_core.specs.Program.{Program}
use Rattle.viper_core.specs.declared.programs.Unit.{Unit}
use Rattle.viper_state.specs.Event.{Event}
use Rattle.viper_state.specs.Run.{Opening}
use Rattle.boogie_tree.specs.Value.{BRun}
use Rattle.moves.specs.Moves.{moves}
use Rattle.run_file_boogie.specs.BoogiePrinted.{run_text}
use Rattle.enc_locals.specs.Procedure.{front_procedure}
use Rattle.enc_locals.specs.Opened.{start_settings}

-- a run of a unit as one of its procedure: from the opening, and on the moves of what was recorded
abbrev pub moved_run : Opening → List Event → BRun
moved_run o events = record { settings = start_settings o; choices = moves events }

-- the text of the run of Boogie that a run of a unit turns into
abbrev pub moved_text : Program → Unit → Opening → List Event → List ℕ
moved_text p u o events = run_text (front_procedure p u) (moved_run o events)
