-- What the stages of a run refuse, and what they tell.
use Rattle.std.proofs.Common.{◌≡◌, ◌∙◌, ◌≤◌, ℕ, List, length, map, All, Some, None, slice_get, sym, ap, subst}
use Rattle.vb_base.specs.declared.labels.Label.{Label}
use Rattle.vb_base.specs.Limits.{max_viper_bytes}
use Rattle.viper_core.specs.Program as p
use Rattle.viper_core.specs.declared.programs.Unit.{Unit}
use Rattle.viper_meaning.specs.Run.{Step, Goes, Fails, Blocked, Short, Over, ran}
use Rattle.viper_state.specs.State.{State}
use Rattle.viper_state.specs.View.{event_of}
use Rattle.viper_state.specs.declared.runs.Outcome.TheVariants as outcome
use Rattle.moves.specs.Moves.{moves}
use Rattle.moves.specs.Printable.{IsNamedMove}
use Rattle.run_file_words.specs.Answers.{UnlessMemory}
use Rattle.enc_locals.specs.Opened.{start_settings, IsNamedSetting}
use Rattle.run_file.specs.Run.{GoesWrongAt}
use Rattle.run_file_words.specs.declared.faults.RunFileFault.{RunFileFault}
use Rattle.run_file_words.specs.declared.faults.RunFileFault.TheVariants as fault
use Rattle.viper_run.specs.Outcome.{outcome_of, Ends}
use Rattle.viper_run.specs.declared.units.Run.{Run}
use Rattle.viper_file.specs.Accepted.{IsAccepted}
use Rattle.vb_tool.specs.Accepted.{AcceptsRun, IsTextRefusal, IsRunRefusal, of_text, no_unit, run_syntax}
use Rattle.vb_tool.specs.Converted.{trouble_of_run}
use Rattle.vb_tool.specs.Moved.{moved_text}
use Rattle.vb_tool.specs.Outcome.{status_of, with_moved, run_status, run_text}
use Rattle.vb_tool.specs.Parts.{OutcomeOf}
use Rattle.vb_tool.specs.Units.{unit_named, UnitRun, end_of}
use Rattle.vb_tool.specs.declared.status.Refusal.{Refusal}
use Rattle.vb_tool.specs.declared.status.Refusal.TheVariants as refusal
use Rattle.vb_tool.specs.declared.status.Status.{Status}
use Rattle.vb_tool.specs.declared.status.Status.TheVariants as status
use Rattle.vb_tool.proofs.TransferLaws.{run_fails_again}
use Rattle.vb_tool.specs.declared.trouble.Trouble.TheVariants as trouble

pub text_refused : {bytes name run : List ℕ} {r : Refusal} → length bytes ≤ max_viper_bytes → length run ≤ max_viper_bytes → IsTextRefusal bytes r → IsRunRefusal bytes name run r
text_refused small few is = of_text small few is

pub unit_refused : (bytes name run : List ℕ) (q : p.Program) (r : Refusal) → IsAccepted bytes q → length run ≤ max_viper_bytes → unit_named q name ≡ None →
    trouble.Refused refusal.NoUnit ≡ trouble.Refused r → IsRunRefusal bytes name run r
unit_refused bytes name run q r is few none is_r =
    let same : refusal.NoUnit ≡ r = cc in
    subst (IsRunRefusal bytes name run) same (no_unit is few none)

pub run_refused : (bytes name run : List ℕ) (q : p.Program) (n : ℕ) (f : RunFileFault) (r : Refusal) → IsAccepted bytes q → length run ≤ max_viper_bytes → unit_named q name ≡ Some n →
    UnlessMemory (GoesWrongAt run q n) f → trouble_of_run f ≡ trouble.Refused r → IsRunRefusal bytes name run r
run_refused bytes name run q n fault.Memory r is few named wrong is_r = absurd (cc)
run_refused bytes name run q n (fault.Syntax at) r is few named wrong is_r =
    let same : refusal.RunSyntax at ≡ r = cc in
    subst (IsRunRefusal bytes name run) same (run_syntax is few named wrong)

-- ---- what is told of a run

-- only a run that failed ends with that status
failed_step : (step : Step State) (label : Label) → status_of (outcome_of step) ≡ status.Failed label → step ≡ Fails label
failed_step (Goes x) label is = absurd (cc)
failed_step (Fails l) label is = let same : l ≡ label = cc in ap Fails same
failed_step Blocked label is = absurd (cc)
failed_step Short label is = absurd (cc)
failed_step (Over at) label is = absurd (cc)

pub told_is : (bytes name run : List ℕ) (u : UnitRun) (w : Unit) (s : Status) (text : List ℕ) (x : Run) → AcceptsRun bytes name run u → slice_get u.program.units u.unit ≡ Some w → Ends (end_of u) x →
    s ≡ status_of x.outcome → text ≡ with_moved x.outcome x.unused (moved_text u.program w u.run.opening (map event_of x.events.items)) →
    ((label : Label) → x.outcome ≡ outcome.Failed label → All IsNamedMove (moves (map event_of x.events.items)) × All IsNamedSetting (start_settings u.run.opening)) →
    OutcomeOf bytes name run s text
told_is bytes name run u w s text x accepts there ends is_s is_text named =
    let moved = moved_text u.program w u.run.opening (map event_of x.events.items) in
    let status_is = is_s ∙ ap status_of ends.outcome in
    let told = is_text ∙ ap (λ o. with_moved o x.unused moved) ends.outcome ∙ ap (λ n. with_moved (outcome_of ends.step) n moved) ends.unused in
    record {
      run = u;
      accepted = accepts;
      unit = w;
      exists = there;
      status_is = status_is ∙ sym (ap run_status ends.runs);
      text_is = told ∙ sym (ap (run_text u.program w u.run.opening) ends.runs);
      transferred = λ label is.
          let failed = failed_step ends.step label (sym status_is ∙ is) in
          let fails = ends.runs ∙ ap (λ o. ran (map event_of x.events.items) o ends.left) failed in
          let names = named label (ends.outcome ∙ ap outcome_of failed) in
          record {
            unit = w;
            exists = there;
            events = map event_of x.events.items;
            left = ends.left;
            fails = fails;
            text_is = told ∙ ap (λ o. with_moved (outcome_of o) (length ends.left) moved) failed;
            again = λ translation t. run_fails_again accepts w (map event_of x.events.items) ends.left label there fails names.0 names.1 translation t;
          };
    }
