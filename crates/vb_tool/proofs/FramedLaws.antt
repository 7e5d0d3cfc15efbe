-- An execution does not fail where no procedure of the translation of its file does.
use Rattle.std.proofs.Common.{◌≡◌, ◌∙◌, ℕ, List, slice_get, All, refl, sym, ap, subst}
use Rattle.std.proofs.lemmas.List.Elements.{All-weaker}
use Rattle.std.proofs.lemmas.Option.{get_or_from_slice_get}
use Rattle.vb_base.specs.declared.labels.Label.{Label}
use Rattle.vb_value.specs.Bound.{Bounded}
use Rattle.boogie_grammar.specs.Spells.{BSpells}
use Rattle.boogie_tree.specs.Program.{BProgram}
use Rattle.enc_units.specs.Translates.{Translates, text_of}
use Rattle.enc_units.proofs.ProgramLaws.{translates}
use Rattle.viper_exec_meaning.specs.Execution.{Went, Still, Spent, CanExecute, exec}
use Rattle.viper_exec_meaning.specs.Frame.{NoExecutionFails}
use Rattle.run_file.proofs.SpelledLaws.{spelled_good}
use Rattle.viper_core.specs.Program as p
use Rattle.viper_core.specs.declared.programs.Unit.TheVariants as u
use Rattle.viper_exec.specs.Outcome.{end_of}
use Rattle.viper_meaning.proofs.FoundLaws.{found_then}
use Rattle.viper_meaning.specs.Asked.{IsReducedChoice}
use Rattle.viper_meaning.specs.Ends.{found}
use Rattle.viper_meaning.specs.Run.{Step, Goes, Fails, Blocked, Short, Over, Ran, ran, on, evaluating}
use Rattle.viper_state.specs.Choice.{Choice}
use Rattle.viper_state.specs.Fits.{FitsChoice}
use Rattle.viper_state.specs.Event.{Event}
use Rattle.viper_state.specs.State.{State}
use Rattle.vb_tool.proofs.ExecutionUnits.{can_execute}
use Rattle.vb_tool.proofs.MovedLaws.{choice_reduced}
use Rattle.vb_tool.proofs.VerifiedLaws.{no_unit_fails}
use Rattle.viper_file.proofs.UnitLaws.{no_execution_fails}
use Rattle.viper_file.proofs.Verdicts.{accepted_formed}
use Rattle.viper_file.specs.Framed.{IsFramed}
use Rattle.vb_tool.specs.AcceptedExecution.{AcceptsExecution}
use Rattle.vb_tool.specs.Executions.{MethodRun, execution_end, execution_status, status_of}
use Rattle.vb_tool.specs.Verified.{NoProcedureFails}
use Rattle.vb_tool.specs.declared.status.Status.TheVariants as status

-- ---- an execution that failed

step_failed : (step : Step (Went State)) (label : Label) → status_of (end_of step) ≡ status.Failed label → step ≡ Fails label
step_failed (Goes (Still n x)) label is = absurd (cc)
step_failed (Goes Spent) label is = absurd (cc)
step_failed (Fails l) label is = let same : l ≡ label = cc in ap (λ x. Fails x) same
step_failed Blocked label is = absurd (cc)
step_failed Short label is = absurd (cc)
step_failed (Over at) label is = absurd (cc)

run_failed : (r : Ran (Went State)) (label : Label) → execution_status r ≡ status.Failed label → (events : List Event) × (left : List Choice) × (r ≡ ran events (Fails label) left)
run_failed (ran events step left) label is = (events, left, ap (λ x. ran events x left) (step_failed step label is))

-- ---- the frame

-- no execution of a framed file fails
pub nothing_executed_fails : {bytes : List ℕ} (program : p.Program) (boogie : BProgram) → IsFramed bytes program → BSpells (text_of program) boogie → NoProcedureFails boogie → NoExecutionFails Bounded program
nothing_executed_fails program boogie h spelled nothing =
    let t : Translates program (text_of program) = translates program (accepted_formed h.accepted) in
    no_execution_fails program h (no_unit_fails program (text_of program) t (subst NoProcedureFails (t.only boogie spelled) nothing)) Bounded

module _ {bytes name run_bytes : List ℕ} {r : MethodRun} (h : AcceptsExecution bytes name run_bytes r) where
  executes : CanExecute r.program r.number r.run.opening
  executes =
      can_execute r.program name r.unit h.named (u.Method r.number) r.number (sym (get_or_from_slice_get r.program.units r.unit (u.Method r.number) (u.Method r.number) h.is_method)) refl
      run_bytes r.run h.spelled

  reduced : All IsReducedChoice r.run.choices
  reduced =
      All-weaker (FitsChoice r.program.layout) IsReducedChoice (choice_reduced r.program.layout) r.run.choices (spelled_good run_bytes r.program r.unit r.run h.spelled).choices_fit

  -- it is the execution of its method and the body of that
  is_execution : (n : ℕ) → execution_end n r ≡ on (exec Bounded r.program executes.method executes.body r.run.opening n) r.run.choices
  is_execution n =
      ap (λ x. on x r.run.choices)
      (found_then (slice_get r.program.methods r.number) (λ m. evaluating (found m.body) (λ body. exec Bounded r.program m body r.run.opening n)) executes.method executes.exists ∙
      found_then executes.method.body (λ body. exec Bounded r.program executes.method body r.run.opening n) executes.body executes.has_body)

  pub framed_ends : (boogie : BProgram) → BSpells (text_of r.program) boogie → NoProcedureFails boogie → (n : ℕ) (label : Label) → execution_status (execution_end n r) ≡ status.Failed label → ⊥
  framed_ends boogie spelled nothing n label failed =
      let (events, left, is) = run_failed (execution_end n r) label failed in
      nothing_executed_fails r.program boogie h.framed spelled nothing r.number executes.method executes.body executes.exists executes.has_body
      r.run.opening executes.fits r.run.choices reduced n events label left (sym (is_execution n) ∙ is)
