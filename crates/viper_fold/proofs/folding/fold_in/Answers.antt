use Rattle.std.proofs.Common.{refl, sym, ap, subst, All}
use Rattle.vb_value.specs.Value.{IsWithinValue}
use Rattle.viper_core.specs.Literals.{AreWithinExprs}
use Rattle.viper_core.specs.View.{exprs_of, fold_of, program_of}
use Rattle.viper_state.specs.View.{state_of}
use Rattle.viper_eval.specs.View.{lent}
use Rattle.viper_eval.proofs.WithinLaws.{values_within}
use Rattle.viper_inhale.proofs.DoesLaws.{passed, same_run}
use Rattle.viper_inhale.proofs.FormLaws.{part_stops, part_goes}
use Rattle.viper_fold.specs.Steps.{folded_at}
use Rattle.viper_fold.proofs.FoldLaws.{folds}
use Rattle.viper_fold.proofs.folding.fold_in.Goals as goal

pub returns-in_err-args : goal.returns-in_err-args
returns-in_err-args c =
    passed _ _ c.from_residual.ensures.1 (part_stops _ (folds (program_of c.args.program.now) c.args.s.now (state_of c.args.state.now) (lent c.args.scene) c.deref.ensures.value)
    c.in_err-args.ensures.answers c.in_err-args.ensures.left)

pub returns-in_err-amount : goal.returns-in_err-amount
returns-in_err-amount c =
    passed _ _ c.from_residual-in_err-amount.ensures.1 (part_goes _ (folds (program_of c.args.program.now) c.args.s.now (state_of c.args.state.now) (lent c.args.scene) c.deref.ensures.value)
    c.in_ok-args.ensures.answers c.in_ok-args.ensures.left (part_stops _ refl c.in_err-amount.ensures.answers c.in_err-amount.ensures.left))

pub fold_at-requires-clause-args_within : goal.fold_at-requires-clause-args_within
fold_at-requires-clause-args_within c =
    subst (All IsWithinValue) (sym c.deref-2.ensures.value)
    (values_within (λ vs. vs.items) (exprs_of c.deref.result.now) (state_of c.args.state.now) (lent c.args.scene)
    (subst (λ es. AreWithinExprs (exprs_of es)) (sym c.deref.ensures.value) c.requires.args_within) c.requires.state_within c.requires.scene_within c.in_ok-args.ensures.answers)

pub returns : goal.returns
returns c =
    part_goes _ (folds (program_of c.args.program.now) c.args.s.now (state_of c.args.state.now) (lent c.args.scene) c.deref.ensures.value)
    c.in_ok-args.ensures.answers c.in_ok-args.ensures.left (part_goes _ refl c.in_ok-amount.ensures.answers c.in_ok-amount.ensures.left
    (same_run (ap (λ vs. folded_at (program_of c.args.program.now) (fold_of c.args.s.now) vs c.in_ok-amount.amount (state_of c.args.state.now) (lent c.args.scene)) (sym c.deref-2.ensures.value))
    c.fold_at.ensures))
