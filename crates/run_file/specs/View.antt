-- The plain data that contracts see of a run, and of how far a file is read.
use Rattle.std.specs.Prelude.{map}
use Rattle.viper_state.specs.State.{Memo}
use Rattle.viper_state.specs.View.{opening_of, choice_of}
use Rattle.run_file.specs.Run as r
use Rattle.run_file.specs.FillingView.{filling_of}
use Rattle.run_file.specs.Front.{Front}
use Rattle.run_file.specs.Progress.{Progress, stage_within, with_filled}
use Rattle.run_file.specs.NamedView.{named_of}
use Rattle.run_file.specs.declared.runs.ViperFront.{ViperFront}
use Rattle.run_file.specs.declared.runs.ViperRun.{ViperRun}
use Rattle.run_file.specs.declared.reader.ViperReader.{ViperReader}
use Rattle.run_file.specs.declared.reader.ViperStage.{ViperStage}

abbrev pub run_of : ViperRun → r.ViperRun
run_of x = record { opening = opening_of x.opening; choices = map choice_of x.choices.items }

abbrev pub front_view : ViperFront → Front
front_view x = record { run = run_of x.run; more = x.more }

-- a heap and contents that are filled within the prefix stand in their place in the run
abbrev pub front_filled : ViperStage → Memo → Front → Front
front_filled g m front = record { run = with_filled (stage_within front.more g) m front.run; more = front.more }

abbrev pub progress_of : ViperReader → Progress Front
progress_of x = record { stage = x.stage; named = named_of x.named; run = front_filled x.stage (filling_of x.filling) (front_view x.front) }
