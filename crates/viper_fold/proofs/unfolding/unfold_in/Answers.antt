use Rattle.std.proofs.Common.{sym, ap, ◌∙◌, subst, All}
use Rattle.vb_value.specs.Value.{IsWithinValue}
use Rattle.viper_core.specs.Literals.{AreWithinExprs}
use Rattle.viper_core.specs.View.{exprs_of, fold_of, program_of}
use Rattle.viper_state.specs.State.{State}
use Rattle.viper_state.specs.View.{state_of}
use Rattle.viper_meaning.specs.Run.{ended}
use Rattle.viper_eval.specs.View.{lent}
use Rattle.viper_eval.proofs.AnswerLaws.{same_answers, goes_then, stops_then}
use Rattle.viper_eval.proofs.WithinLaws.{values_within}
use Rattle.viper_inhale.proofs.DoesLaws.{passed, same_run, ended_goes, ended_stops}
use Rattle.viper_fold.specs.Steps.{unfolded_at}
use Rattle.viper_fold.proofs.FoldLaws.{unfolds}
use Rattle.viper_fold.proofs.unfolding.unfold_in.Goals as goal

pub returns-in_err-args : goal.returns-in_err-args
returns-in_err-args c =
    passed _ _ c.from_residual.ensures.1 (same_run (ap ended (unfolds (program_of c.args.program.now) c.args.s.now (state_of c.args.state.now) (lent c.args.scene) c.deref.ensures.value))
    (ended_stops {v = λ (s : State). s} (stops_then _ c.in_err-args.ensures.answers) c.in_err-args.ensures.left))

pub returns-in_err-amount : goal.returns-in_err-amount
returns-in_err-amount c =
    passed _ _ c.from_residual-in_err-amount.ensures.1
    (same_run (ap ended (unfolds (program_of c.args.program.now) c.args.s.now (state_of c.args.state.now) (lent c.args.scene) c.deref.ensures.value))
    (ended_stops {v = λ (s : State). s} (goes_then _ c.in_ok-args.ensures.answers (stops_then _ c.in_err-amount.ensures.answers)) (c.in_err-amount.ensures.left ∙ c.in_ok-args.ensures.left)))

pub unfold_at-requires-clause-args_within : goal.unfold_at-requires-clause-args_within
unfold_at-requires-clause-args_within c =
    subst (All IsWithinValue) (sym c.deref-2.ensures.value)
    (values_within (λ vs. vs.items) (exprs_of c.deref.result.now) (state_of c.args.state.now) (lent c.args.scene)
    (subst (λ es. AreWithinExprs (exprs_of es)) (sym c.deref.ensures.value) c.requires.args_within) c.requires.state_within c.requires.scene_within c.in_ok-args.ensures.answers)

pub returns-in_err-unfold_at : goal.returns-in_err-unfold_at
returns-in_err-unfold_at c =
    passed _ _ c.from_residual-in_err-unfold_at.ensures.1
    (same_run (ap ended (unfolds (program_of c.args.program.now) c.args.s.now (state_of c.args.state.now) (lent c.args.scene) c.deref.ensures.value))
    (ended_stops (goes_then _ c.in_ok-args.ensures.answers (goes_then _ c.in_ok-amount.ensures.answers
    (same_answers (ap (λ vs. unfolded_at (program_of c.args.program.now) (fold_of c.args.s.now) vs c.in_ok-amount.amount (state_of c.args.state.now) (lent c.args.scene)) (sym c.deref-2.ensures.value))
    c.in_err-unfold_at.ensures.answers))) (c.in_err-unfold_at.ensures.left ∙ c.in_ok-amount.ensures.left ∙ c.in_ok-args.ensures.left)))

pub returns : goal.returns
returns c =
    same_run (ap ended (unfolds (program_of c.args.program.now) c.args.s.now (state_of c.args.state.now) (lent c.args.scene) c.deref.ensures.value))
    (ended_goes (goes_then _ c.in_ok-args.ensures.answers (goes_then _ c.in_ok-amount.ensures.answers
    (same_answers (ap (λ vs. unfolded_at (program_of c.args.program.now) (fold_of c.args.s.now) vs c.in_ok-amount.amount (state_of c.args.state.now) (lent c.args.scene)) (sym c.deref-2.ensures.value))
    c.in_ok-unfold_at.ensures.answers))) (c.in_ok-unfold_at.ensures.left ∙ c.in_ok-amount.ensures.left ∙ c.in_ok-args.ensures.left))
