-- What `run` writes of a run that failed is a run of Boogie that fails again.
use Rattle.std.proofs.Common.{◌≡◌, ℕ, List, All, Some, slice_get}
use Rattle.vb_base.specs.declared.labels.Label.{Label}
use Rattle.viper_core.specs.declared.programs.Unit.{Unit}
use Rattle.viper_meaning.specs.Run.{Fails, ran}
use Rattle.viper_state.specs.Choice.{Choice}
use Rattle.viper_state.specs.Event.{Event}
use Rattle.moves.specs.Moves.{moves}
use Rattle.moves.specs.Printable.{IsNamedMove}
use Rattle.enc_locals.specs.Opened.{start_settings, IsNamedSetting}
use Rattle.enc_units.specs.Translates.{Translates}
use Rattle.vb_tool.proofs.AgainLaws.{fails_again_by}
use Rattle.vb_tool.proofs.MovedLaws.{run_opens, run_within, run_reduced, moves_printable, settings_printable, front_length}
use Rattle.vb_tool.specs.Accepted.{AcceptsRun}
use Rattle.vb_tool.specs.Moved.{moved_run, moved_text}
use Rattle.vb_tool.specs.Transfer.{FailsAgain}
use Rattle.vb_tool.specs.Units.{UnitRun, end_of}

module _ {bytes name run : List ℕ} {u : UnitRun} (h : AcceptsRun bytes name run u) (w : Unit) (events : List Event) (left : List Choice) (label : Label)
    (there : slice_get u.program.units u.unit ≡ Some w) (ends : end_of u ≡ ran events (Fails label) left)
    (named : All IsNamedMove (moves events)) (set : All IsNamedSetting (start_settings u.run.opening)) where
  pub run_fails_again : (translation : List ℕ) (t : Translates u.program translation) →
      FailsAgain u.program u.unit (moved_run u.run.opening events) label (moved_text u.program w u.run.opening events) translation t
  run_fails_again = fails_again_by u.program u.unit w u.run.opening events label there (front_length h there) (settings_printable h there set) (moves_printable h ends named)
      (λ b bytes t d is. t.transfers u.unit d is u.run.opening u.run.choices events left label (run_opens h) (run_within h).0 (run_reduced h) (run_within h).1 ends b)
