-- A state that is taken from outside has what a run needs.
use Rattle.std.proofs.Common.{◌≡◌, refl, Bool, true, false, [], ◌∷◌, IfSome, Some, None, if◌then◌else◌, All, Ok}
use Rattle.vb_value.specs.Layout.{Layout}
use Rattle.viper_core.specs.Program.{Program}
use Rattle.viper_state.specs.Choice as choice
use Rattle.viper_state.specs.Choice.{Choice}
use Rattle.viper_state.specs.Event as event
use Rattle.viper_state.specs.Fits.{FitsChoice, HasMaps, MemoHasMaps}
use Rattle.viper_state.specs.FitsTest.{fits_memo}
use Rattle.viper_state.specs.Run.{Feed}
use Rattle.viper_state.specs.State.{State, empty_state}
use Rattle.viper_state.specs.Within.{IsWithinChoice, IsWithinState}
use Rattle.viper_state.proofs.FitsTestLaws.{Decides-fits_memo}
use Rattle.viper_state.proofs.ShapeLaws.{memo_has_maps, empty_state_has_maps}
use Rattle.viper_meaning.specs.Forgotten.{memo_in}
use Rattle.viper_meaning.specs.Kept.{IsAny}
use Rattle.viper_meaning.specs.KeptRuns.{KeepsRun, at_end}
use Rattle.viper_meaning.specs.Run as run
use Rattle.viper_meaning.specs.Run.{Run}
use Rattle.viper_meaning.specs.Statements.{taking_state}
use Rattle.viper_meaning.proofs.KeptLaws.{is_kept}
use Rattle.viper_meaning.proofs.RunKeptLaws.{before_kept, taking_kept}
use Rattle.viper_meaning.proofs.SignLaws.{any_events}
use Rattle.viper_meaning.proofs.StatementKeptLaws.{state_within}
use Rattle.viper_inhale.specs.Answers.{Does}
use Rattle.viper_run.specs.Ready.{CanGoOn}
use Rattle.viper_run.proofs.ReadyLaws.{left_kept, any_choices}
use Rattle.viper_inhale.proofs.DoesLaws.{does_keep}

memo_chosen : (l : Layout) (c : Choice) → IfSome (memo_in l c) (MemoHasMaps l)
memo_chosen l (choice.Filled m) = where_so (fits_memo l m) refl
  where
    where_so : (x : Bool) → fits_memo l m ≡ x → IfSome (if x then Some m else None) (MemoHasMaps l)
    where_so true e = memo_has_maps l m ((Decides-fits_memo l m).0 e)
    where_so false e = tt
memo_chosen l _ = tt

pub state_shape : {X : Type 0} {P : X → Type 0} (program : Program) {go : State → Run X} → ((s : State) → HasMaps program.layout s → KeepsRun IsAny IsAny P (go s)) → KeepsRun IsAny IsAny P (taking_state program go)
state_shape program {go = go} g = taking_kept {Q = MemoHasMaps program.layout} (memo_in program.layout) (λ c u. memo_chosen program.layout c) (λ m h.
    before_kept (event.Whole m ∷ []) (any_events (event.Whole m ∷ [])) (g (empty_state program.layout m) (empty_state_has_maps program.layout m h)))

-- a state that was taken
pub starts : {Z : Type 0} {v : Z → State} {f g : Feed} {z : Z} (program : Program) → All IsWithinChoice f.left → All (FitsChoice program.layout) f.left → Does v f (taking_state program (λ s. run.goes s)) g (Ok z) → CanGoOn program.layout (v z) g
starts {f = f} program choices fit d = record {
  within = (does_keep {P = IsWithinState} (state_within program {go = λ s. run.goes s} (λ s h. at_end (is_kept {x = s} h))) choices d).0;
  maps = (does_keep {P = HasMaps program.layout} (state_shape program {go = λ s. run.goes s} (λ s h. at_end (is_kept {x = s} h))) (any_choices f.left) d).0;
  choices = left_kept IsWithinChoice choices d;
  fit = left_kept (FitsChoice program.layout) fit d;
}
