-- What is promised of the run of Boogie that `run` writes for a run that failed: on any translation of the program it fails again.
use Rattle.std.specs.Prelude.{◌≡◌, ◌≤◌, ◌++◌, ℕ, List, [], Some, length, slice_get}
use Rattle.vb_base.specs.Limits.{max_boogie_bytes}
use Rattle.vb_base.specs.declared.labels.Label.{Label}
use Rattle.vb_value.specs.Bound.{Bound}
use Rattle.viper_core.specs.Program.{Program}
use Rattle.viper_core.specs.declared.programs.Unit.{Unit}
use Rattle.viper_meaning.specs.Run.{Fails, ran}
use Rattle.viper_state.specs.Choice.{Choice}
use Rattle.viper_state.specs.Event.{Event}
use Rattle.viper_state.specs.declared.runs.Outcome.TheVariants as outcome
use Rattle.boogie_meaning.specs.Programs.{types_of, brun_proc}
use Rattle.boogie_meaning.specs.Run.{Stops, Failed}
use Rattle.boogie_run.specs.Start.{start_of}
use Rattle.boogie_tree.specs.Program.{Proc}
use Rattle.boogie_tree.specs.Value.{BRun}
use Rattle.run_file_boogie.specs.BoogiePrinted.{run_text}
use Rattle.run_file_boogie.specs.BoogieRun.{SpellsBoogieRun}
use Rattle.enc_units.specs.Translates.{Translates}
use Rattle.vb_tool.specs.Accepted.{AcceptsRun}
use Rattle.vb_tool.specs.AcceptedReplay.{AcceptsReplay}
use Rattle.vb_tool.specs.Moved.{moved_run, moved_text}
use Rattle.vb_tool.specs.Outcome.{outcome_text}
use Rattle.vb_tool.specs.Units.{UnitRun, end_of}

-- The translation has a procedure of the unit of this number. The text is that of the run, of this procedure, and spells it; and the run
-- fails at the label, with no choice left, with the bound and without it. Where both texts are within the limits of `replay`, it is
-- the run that is replayed.
pub record FailsAgain (p : Program) (n : ℕ) (run : BRun) (label : Label) (text translation : List ℕ) (t : Translates p translation) : Type 0 where
  pub procedure : Proc
  pub exists : slice_get t.boogie.procs n ≡ Some procedure
  pub printed : text ≡ run_text procedure run
  pub spelled : SpellsBoogieRun text procedure run
  pub fails : (b : Bound) → brun_proc b procedure (start_of (types_of procedure) run.settings) run.choices ≡ Stops (Failed label) []
  pub replayed : length translation ≤ max_boogie_bytes → length text ≤ max_boogie_bytes →
      AcceptsReplay translation text (record { program = t.boogie; procedure = procedure; environment = start_of (types_of procedure) run.settings; choices = run.choices })

-- The run of a unit fails at the label. The text is its two lines, and then that of the run of Boogie that it turns into, which fails
-- again on each translation of the program.
pub record IsTransferred (u : UnitRun) (label : Label) (text : List ℕ) : Type 0 where
  pub unit : Unit
  pub exists : slice_get u.program.units u.unit ≡ Some unit
  pub events : List Event
  pub left : List Choice
  pub fails : end_of u ≡ ran events (Fails label) left
  pub text_is : text ≡ outcome_text (outcome.Failed label) (length left) ++ moved_text u.program unit u.run.opening events
  pub again : (translation : List ℕ) (t : Translates u.program translation) →
      FailsAgain u.program u.unit (moved_run u.run.opening events) label (moved_text u.program unit u.run.opening events) translation t

-- Two files and the name of a unit are a run that fails at the label, and the text is what is written of it.
pub record IsTransfer (Has : List ℕ → List ℕ → Type 0) (file unit run_file : List ℕ) (label : Label) (text : List ℕ) : Type 0 where
  pub bytes : List ℕ
  pub run_bytes : List ℕ
  pub is : Has file bytes
  pub run_is : Has run_file run_bytes
  pub run : UnitRun
  pub accepted : AcceptsRun bytes unit run_bytes run
  pub transferred : IsTransferred run label text
