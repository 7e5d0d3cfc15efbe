-- Each exit of a reading, by the steps that led to it.
use Rattle.std.proofs.Common.{rules, refl, sym, ap, ◌∙◌, subst, All}
use Rattle.vb_value.specs.Bound.{Bounded}
use Rattle.vb_value.specs.Value.{IsWithinValue}
use Rattle.vb_value.specs.View.{content_of}
use Rattle.vb_value.specs.declared.values.Value.TheVariants as variant
use Rattle.vb_value.proofs.BoundLaws.{read_back}
use Rattle.viper_core.specs.Literals.{IsWithinExpr, AreWithinExprs, IsWithinAssertion}
use Rattle.viper_core.specs.View.{expr_of, exprs_of, amt_of, assertion_of, opened_of}
use Rattle.viper_core.specs.declared.exprs.Expr.{the_lemmas}
use Rattle.viper_state.specs.State.{State}
use Rattle.viper_state.specs.View.{state_of}
use Rattle.viper_state.specs.Within.{IsWithinScene}
use Rattle.viper_meaning.specs.Ends.{is, found}
use Rattle.viper_meaning.specs.Operators.{truth_of, perm_of, ref_of}
use Rattle.viper_meaning.specs.Places.{key_of}
use Rattle.viper_meaning.specs.Value.{amount_of, opened}
use Rattle.viper_eval.specs.Answers.{no_memory}
use Rattle.viper_eval.specs.Steps.{unfolded_at}
use Rattle.viper_eval.specs.View.{lent}
use Rattle.viper_eval.proofs.AnswerLaws.{passed, same_answers, goes_then, stops_then, calmly, ends_with, stops_with, found_as, found_as_stops}
use Rattle.viper_eval.proofs.WithinLaws.{value_within, values_within, opened_within, halves_within, key_is_within, taken_within, scene_within, content_is_within, argument_within}
use Rattle.viper_eval.proofs.ArgumentLaws.{argument_goes, argument_stops, arguments_end}
use Rattle.viper_core.proofs.NodeLaws.{neg_is, not_is, bin_is, choose_is, field_is, unfolding_is, opened_is, inst_is, and_is, implies_is, choice_is}
use Rattle.viper_eval.proofs.PlaceLaws.{taken_at, placed_at, filled_at}
use Rattle.viper_eval.proofs.ExpressionLaws as expression
use Rattle.viper_eval.proofs.BodyLaws as body
use Rattle.viper_eval.proofs.readings.+readings.Goals as goal

pub eval_in-returns-in_err-variable-in-Var : goal.eval_in-returns-in_err-variable-in-Var
eval_in-returns-in_err-variable-in-Var _ c = record {
  answers = passed _ _ c.from_residual.ensures.1 (expression.of_expr (state_of c.args.now.now) (lent c.args.scene) _ (ap expr_of c.in-Var.is)
      (stops_with _ c.in_err-variable-in-Var.ensures));
  left = refl;
}

pub eval_in-returns-in_ok-variable-in-Var : goal.eval_in-returns-in_ok-variable-in-Var
eval_in-returns-in_ok-variable-in-Var _ c = record {
  answers = expression.of_expr (state_of c.args.now.now) (lent c.args.scene) _ (ap expr_of c.in-Var.is) (ends_with _ c.in_ok-variable-in-Var.ensures);
  left = refl;
}

pub eval_in-returns-in-Int : goal.eval_in-returns-in-Int
eval_in-returns-in-Int _ c = record {
  answers = expression.of_expr (state_of c.args.now.now) (lent c.args.scene) _ (ap expr_of c.in-Int.is)
      (ends_with _ (ap (λ n. is (variant.Int n)) (read_back c.in-Int.number (subst IsWithinExpr (ap expr_of c.in-Int.is) c.requires.e_within))));
  left = refl;
}

pub eval_in-returns-in-Bool : goal.eval_in-returns-in-Bool
eval_in-returns-in-Bool _ c = record {
  answers = expression.of_expr (state_of c.args.now.now) (lent c.args.scene) _ (ap expr_of c.in-Bool.is) (ends_with _ refl);
  left = refl;
}

pub eval_in-returns-in-Null : goal.eval_in-returns-in-Null
eval_in-returns-in-Null _ c = record {
  answers = expression.of_expr (state_of c.args.now.now) (lent c.args.scene) _ (ap expr_of c.in-Null.is) (ends_with _ refl);
  left = refl;
}

pub eval_in-returns-in-Part : goal.eval_in-returns-in-Part
eval_in-returns-in-Part _ c = record {
  answers = expression.of_expr (state_of c.args.now.now) (lent c.args.scene) _ (ap expr_of c.in-Part.is) (ends_with _ refl);
  left = refl;
}

pub eval_in-returns-in_err-eval_in-in-Neg : goal.eval_in-returns-in_err-eval_in-in-Neg
eval_in-returns-in_err-eval_in-in-Neg _ c = record {
  answers = passed _ _ c.from_residual-in_err-eval_in-in-Neg.ensures.1 (expression.neg_stops (state_of c.args.now.now) (lent c.args.scene)
      (neg_is c.in-Neg.is c.deref.ensures) c.in_err-eval_in-in-Neg.ensures.answers);
  left = c.in_err-eval_in-in-Neg.ensures.left;
}

pub eval_in-negative-requires : goal.eval_in-negative-requires
eval_in-negative-requires _ c =
    value_within (expr_of c.deref.result.now) (state_of c.args.now.now) (lent c.args.scene)
    (subst IsWithinExpr (neg_is c.in-Neg.is c.deref.ensures) c.requires.e_within) c.requires.now_within c.requires.scene_within c.in_ok-eval_in-in-Neg.ensures.answers

pub eval_in-returns-in_err-negative-in-Neg : goal.eval_in-returns-in_err-negative-in-Neg
eval_in-returns-in_err-negative-in-Neg _ c = record {
  answers = passed _ _ c.from_residual-in_err-negative-in-Neg.ensures.1 (expression.neg_goes (state_of c.args.now.now) (lent c.args.scene)
      (neg_is c.in-Neg.is c.deref.ensures) c.in_ok-eval_in-in-Neg.ensures.answers (stops_with _ c.in_err-negative-in-Neg.ensures));
  left = c.in_ok-eval_in-in-Neg.ensures.left;
}

pub eval_in-returns-in_ok-negative-in-Neg : goal.eval_in-returns-in_ok-negative-in-Neg
eval_in-returns-in_ok-negative-in-Neg _ c = record {
  answers = expression.neg_goes (state_of c.args.now.now) (lent c.args.scene) (neg_is c.in-Neg.is c.deref.ensures) c.in_ok-eval_in-in-Neg.ensures.answers
      (ends_with _ c.in_ok-negative-in-Neg.ensures);
  left = c.in_ok-eval_in-in-Neg.ensures.left;
}

pub eval_in-returns-in_err-eval_in-in-Not : goal.eval_in-returns-in_err-eval_in-in-Not
eval_in-returns-in_err-eval_in-in-Not _ c = record {
  answers = passed _ _ c.from_residual-in_err-eval_in-in-Not.ensures.1 (expression.not_stops (state_of c.args.now.now) (lent c.args.scene)
      (not_is c.in-Not.is c.deref-in-Not.ensures) c.in_err-eval_in-in-Not.ensures.answers);
  left = c.in_err-eval_in-in-Not.ensures.left;
}

pub eval_in-returns-in_err-negation-in-Not : goal.eval_in-returns-in_err-negation-in-Not
eval_in-returns-in_err-negation-in-Not _ c = record {
  answers = passed _ _ c.from_residual-in_err-negation-in-Not.ensures.1 (expression.not_goes (state_of c.args.now.now) (lent c.args.scene)
      (not_is c.in-Not.is c.deref-in-Not.ensures) c.in_ok-eval_in-in-Not.ensures.answers (stops_with _ c.in_err-negation-in-Not.ensures));
  left = c.in_ok-eval_in-in-Not.ensures.left;
}

pub eval_in-returns-in_ok-negation-in-Not : goal.eval_in-returns-in_ok-negation-in-Not
eval_in-returns-in_ok-negation-in-Not _ c = record {
  answers = expression.not_goes (state_of c.args.now.now) (lent c.args.scene) (not_is c.in-Not.is c.deref-in-Not.ensures) c.in_ok-eval_in-in-Not.ensures.answers
      (ends_with _ c.in_ok-negation-in-Not.ensures);
  left = c.in_ok-eval_in-in-Not.ensures.left;
}

pub eval_in-returns-in_err-left-in-Bin : goal.eval_in-returns-in_err-left-in-Bin
eval_in-returns-in_err-left-in-Bin _ c = record {
  answers = passed _ _ c.from_residual-in_err-left-in-Bin.ensures.1 (expression.left_stops (state_of c.args.now.now) (lent c.args.scene)
      (bin_is c.in-Bin.is c.deref-in-Bin.ensures refl) c.in_err-left-in-Bin.ensures.answers);
  left = c.in_err-left-in-Bin.ensures.left;
}

pub eval_in-returns-in_err-answer-in-Bin : goal.eval_in-returns-in_err-answer-in-Bin
eval_in-returns-in_err-answer-in-Bin _ c = record {
  answers = passed _ _ c.from_residual-in_err-answer-in-Bin.ensures.1 (expression.settling_stops (state_of c.args.now.now) (lent c.args.scene)
      (bin_is c.in-Bin.is c.deref-in-Bin.ensures refl) c.in_ok-left-in-Bin.ensures.answers c.in_err-answer-in-Bin.ensures);
  left = c.in_ok-left-in-Bin.ensures.left;
}

pub eval_in-returns-in-Some : goal.eval_in-returns-in-Some
eval_in-returns-in-Some _ c = record {
  answers = expression.left_settles (state_of c.args.now.now) (lent c.args.scene) (bin_is c.in-Bin.is c.deref-in-Bin.ensures refl) c.in_ok-left-in-Bin.ensures.answers
      (sym (ap is c.in-Some.is) ∙ c.in_ok-answer-in-Bin.ensures);
  left = c.in_ok-left-in-Bin.ensures.left;
}

pub eval_in-returns-in_err-right-in-Bin : goal.eval_in-returns-in_err-right-in-Bin
eval_in-returns-in_err-right-in-Bin _ c = record {
  answers = passed _ _ c.from_residual-in_err-right-in-Bin.ensures.1 (expression.right_stops (state_of c.args.now.now) (lent c.args.scene)
      (bin_is c.in-Bin.is c.deref-in-Bin.ensures c.deref-in-Bin-2.ensures) c.in_ok-left-in-Bin.ensures.answers (sym (ap is c.in_default.is) ∙ c.in_ok-answer-in-Bin.ensures)
      c.in_err-right-in-Bin.ensures.answers);
  left = c.in_err-right-in-Bin.ensures.left ∙ c.in_ok-left-in-Bin.ensures.left;
}

pub eval_in-returns-in_err-combined-in-Bin : goal.eval_in-returns-in_err-combined-in-Bin
eval_in-returns-in_err-combined-in-Bin _ c = record {
  answers = passed _ _ c.from_residual-in_err-combined-in-Bin.ensures.1 (expression.both_go (state_of c.args.now.now) (lent c.args.scene)
      (bin_is c.in-Bin.is c.deref-in-Bin.ensures c.deref-in-Bin-2.ensures) c.in_ok-left-in-Bin.ensures.answers (sym (ap is c.in_default.is) ∙ c.in_ok-answer-in-Bin.ensures)
      c.in_ok-right-in-Bin.ensures.answers (stops_with _ c.in_err-combined-in-Bin.ensures));
  left = c.in_ok-right-in-Bin.ensures.left ∙ c.in_ok-left-in-Bin.ensures.left;
}

pub eval_in-returns-in_ok-combined-in-Bin : goal.eval_in-returns-in_ok-combined-in-Bin
eval_in-returns-in_ok-combined-in-Bin _ c = record {
  answers = expression.both_go (state_of c.args.now.now) (lent c.args.scene) (bin_is c.in-Bin.is c.deref-in-Bin.ensures c.deref-in-Bin-2.ensures)
      c.in_ok-left-in-Bin.ensures.answers (sym (ap is c.in_default.is) ∙ c.in_ok-answer-in-Bin.ensures) c.in_ok-right-in-Bin.ensures.answers
      (ends_with _ c.in_ok-combined-in-Bin.ensures);
  left = c.in_ok-right-in-Bin.ensures.left ∙ c.in_ok-left-in-Bin.ensures.left;
}

pub eval_in-combined-requires-clause-left_within : goal.eval_in-combined-requires-clause-left_within
eval_in-combined-requires-clause-left_within _ c =
    value_within (expr_of c.deref-in-Bin.result.now) (state_of c.args.now.now) (lent c.args.scene)
    (subst IsWithinExpr (bin_is c.in-Bin.is c.deref-in-Bin.ensures c.deref-in-Bin-2.ensures) c.requires.e_within).0 c.requires.now_within c.requires.scene_within
    c.in_ok-left-in-Bin.ensures.answers

pub eval_in-combined-requires-clause-right_within : goal.eval_in-combined-requires-clause-right_within
eval_in-combined-requires-clause-right_within _ c =
    value_within (expr_of c.deref-in-Bin-2.result.now) (state_of c.args.now.now) (lent c.args.scene)
    (subst IsWithinExpr (bin_is c.in-Bin.is c.deref-in-Bin.ensures c.deref-in-Bin-2.ensures) c.requires.e_within).1 c.requires.now_within c.requires.scene_within
    c.in_ok-right-in-Bin.ensures.answers

pub eval_in-returns-in_err-truth_of-in-Choose : goal.eval_in-returns-in_err-truth_of-in-Choose
eval_in-returns-in_err-truth_of-in-Choose _ c = record {
  answers = passed _ _ c.from_residual-in_err-truth_of-in-Choose.ensures.1
      (expression.choose_stops (state_of c.args.now.now) (lent c.args.scene) (choose_is c.in-Choose.is c.deref-in-Choose.ensures refl refl)
      c.in_err-truth_of-in-Choose.ensures.answers);
  left = c.in_err-truth_of-in-Choose.ensures.left;
}

pub eval_in-returns-then-branch : goal.eval_in-returns-then-branch
eval_in-returns-then-branch _ c = record {
  answers = expression.choose_so (state_of c.args.now.now) (lent c.args.scene) (choose_is c.in-Choose.is c.deref-in-Choose.ensures c.deref-then-branch.ensures refl)
      c.in_ok-truth_of-in-Choose.ensures.answers c.if-branch.true c.eval_in-then-branch.ensures.answers;
  left = c.eval_in-then-branch.ensures.left ∙ c.in_ok-truth_of-in-Choose.ensures.left;
}

pub eval_in-returns-else-branch : goal.eval_in-returns-else-branch
eval_in-returns-else-branch _ c = record {
  answers = expression.choose_not (state_of c.args.now.now) (lent c.args.scene) (choose_is c.in-Choose.is c.deref-in-Choose.ensures refl c.deref-else-branch.ensures)
      c.in_ok-truth_of-in-Choose.ensures.answers c.if-branch.false c.eval_in-else-branch.ensures.answers;
  left = c.eval_in-else-branch.ensures.left ∙ c.in_ok-truth_of-in-Choose.ensures.left;
}

pub eval_in-returns-in_err-receiver-in-Field : goal.eval_in-returns-in_err-receiver-in-Field
eval_in-returns-in_err-receiver-in-Field _ c = record {
  answers = passed _ _ c.from_residual-in_err-receiver-in-Field.ensures.1
      (expression.field_stops (state_of c.args.now.now) (lent c.args.scene) (field_is c.in-Field.is c.deref-in-Field.ensures)
      c.in_err-receiver-in-Field.ensures.answers);
  left = c.in_err-receiver-in-Field.ensures.left;
}

pub eval_in-returns-in_err-read_field-in-Field : goal.eval_in-returns-in_err-read_field-in-Field
eval_in-returns-in_err-read_field-in-Field _ c = record {
  answers = passed _ _ c.from_residual-in_err-read_field-in-Field.ensures.1
      (expression.field_goes (state_of c.args.now.now) (lent c.args.scene) (field_is c.in-Field.is c.deref-in-Field.ensures) c.in_ok-receiver-in-Field.ensures.answers
      (stops_with _ c.in_err-read_field-in-Field.ensures));
  left = c.in_ok-receiver-in-Field.ensures.left;
}

pub eval_in-returns-in_ok-read_field-in-Field : goal.eval_in-returns-in_ok-read_field-in-Field
eval_in-returns-in_ok-read_field-in-Field _ c = record {
  answers = expression.field_goes (state_of c.args.now.now) (lent c.args.scene) (field_is c.in-Field.is c.deref-in-Field.ensures) c.in_ok-receiver-in-Field.ensures.answers
      (ends_with _ c.in_ok-read_field-in-Field.ensures);
  left = c.in_ok-receiver-in-Field.ensures.left;
}

pub eval_in-unfold-requires : goal.eval_in-unfold-requires
eval_in-unfold-requires _ c = (
  search (rules, the_lemmas),
  (
    subst IsWithinExpr (unfolding_is c.in-Unfolding.is c.deref-in-Unfolding.ensures) c.requires.e_within,
    (c.requires.now_within, c.requires.scene_within),
  ),
)

pub eval_in-returns-in-Unfolding : goal.eval_in-returns-in-Unfolding
eval_in-returns-in-Unfolding _ c = record {
  answers = expression.of_expr (state_of c.args.now.now) (lent c.args.scene) _ (unfolding_is c.in-Unfolding.is c.deref-in-Unfolding.ensures) c.unfold.ensures.answers;
  left = c.unfold.ensures.left;
}

pub truth_of-returns-in_err-eval_in : goal.truth_of-returns-in_err-eval_in
truth_of-returns-in_err-eval_in _ c = record {
  answers = passed _ _ c.from_residual.ensures.1 (stops_then truth_of c.in_err-eval_in.ensures.answers);
  left = c.in_err-eval_in.ensures.left;
}

pub truth_of-returns-in_err-truth : goal.truth_of-returns-in_err-truth
truth_of-returns-in_err-truth _ c = record {
  answers = passed _ _ c.from_residual-in_err-truth.ensures.1 (goes_then truth_of c.in_ok-eval_in.ensures.answers (stops_with _ c.in_err-truth.ensures));
  left = c.in_ok-eval_in.ensures.left;
}

pub truth_of-returns : goal.truth_of-returns
truth_of-returns _ c = record {
  answers = goes_then truth_of c.in_ok-eval_in.ensures.answers (ends_with _ c.in_ok-truth.ensures);
  left = c.in_ok-eval_in.ensures.left;
}

pub reference_of-returns-in_err-eval_in : goal.reference_of-returns-in_err-eval_in
reference_of-returns-in_err-eval_in _ c = record {
  answers = passed _ _ c.from_residual.ensures.1 (stops_then ref_of c.in_err-eval_in.ensures.answers);
  left = c.in_err-eval_in.ensures.left;
}

pub reference_of-returns-in_err-reference : goal.reference_of-returns-in_err-reference
reference_of-returns-in_err-reference _ c = record {
  answers = passed _ _ c.from_residual-in_err-reference.ensures.1 (goes_then ref_of c.in_ok-eval_in.ensures.answers (stops_with _ c.in_err-reference.ensures));
  left = c.in_ok-eval_in.ensures.left;
}

pub reference_of-returns : goal.reference_of-returns
reference_of-returns _ c = record {
  answers = goes_then ref_of c.in_ok-eval_in.ensures.answers (ends_with _ c.in_ok-reference.ensures);
  left = c.in_ok-eval_in.ensures.left;
}

pub permission_of-returns-in_err-eval_in : goal.permission_of-returns-in_err-eval_in
permission_of-returns-in_err-eval_in _ c = record {
  answers = passed _ _ c.from_residual.ensures.1 (stops_then perm_of c.in_err-eval_in.ensures.answers);
  left = c.in_err-eval_in.ensures.left;
}

pub permission_of-returns-in_err-permission : goal.permission_of-returns-in_err-permission
permission_of-returns-in_err-permission _ c = record {
  answers = passed _ _ c.from_residual-in_err-permission.ensures.1 (goes_then perm_of c.in_ok-eval_in.ensures.answers (stops_with _ c.in_err-permission.ensures));
  left = c.in_ok-eval_in.ensures.left;
}

pub permission_of-returns : goal.permission_of-returns
permission_of-returns _ c = record {
  answers = goes_then perm_of c.in_ok-eval_in.ensures.answers (ends_with _ c.in_ok-permission.ensures);
  left = c.in_ok-eval_in.ensures.left;
}

pub amount_of-returns-in-Wildcard : goal.amount_of-returns-in-Wildcard
amount_of-returns-in-Wildcard _ c = record {
  answers = same_answers (ap (λ m. amount_of Bounded (amt_of m) (state_of c.args.now.now) (lent c.args.scene)) c.in-Wildcard.is)
      (stops_with _ refl);
  left = refl;
}

pub eval_all-returns-in_err-values-clause-answers : goal.eval_all-returns-in_err-values-clause-answers
eval_all-returns-in_err-values-clause-answers _ c =
    passed _ _ c.from_residual.ensures.1 no_memory

pub eval_all-returns-in_err-push-clause-answers : goal.eval_all-returns-in_err-push-clause-answers
eval_all-returns-in_err-push-clause-answers _ c =
    passed _ _ c.from_residual-in_err-push.ensures.1 no_memory

pub eval_all-eval_in-requires : goal.eval_all-eval_in-requires
eval_all-eval_in-requires _ c = (
  search (rules, the_lemmas),
  (
    subst (λ e. IsWithinExpr (expr_of e)) (sym c.e-item.is)
        (argument_within c.args.es.now c.loop-e.e-index c.e-item.result c.loop-e-test.true c.requires.es_within),
    (c.requires.now_within, c.requires.scene_within),
  ),
)

pub eval_all-returns-in_err-eval_in : goal.eval_all-returns-in_err-eval_in
eval_all-returns-in_err-eval_in _ c = record {
  answers = passed _ _ c.from_residual-in_err-eval_in.ensures.1 (argument_stops c.args.es.now c.loop-e.e-index (state_of c.args.now.now) (lent c.args.scene) (λ v. v.items)
      c.e-item.result c.loop-e.values.items _ _ _ _ _ c.loop-e-test.true c.e-item.is c.loop-e.invariant.answers c.in_err-eval_in.ensures.answers);
  left = c.in_err-eval_in.ensures.left ∙ c.loop-e.invariant.left;
}

pub eval_all-loop-e-preserved : goal.eval_all-loop-e-preserved
eval_all-loop-e-preserved _ c =
    let next = argument_goes c.args.es.now c.loop-e.e-index (state_of c.args.now.now) (lent c.args.scene) c.e-item.result c.loop-e.values.items _ _ _ _ _ _ c.loop-e-test.true c.e-item.is c.in_ok-push.ensures.items c.loop-e.invariant.answers c.in_ok-eval_in.ensures.answers in
    record { answers = next; left = cc }

pub eval_all-returns : goal.eval_all-returns
eval_all-returns _ c = record {
  answers = arguments_end c.args.es.now c.loop-e.e-index (state_of c.args.now.now) (lent c.args.scene) (λ v. v.items) c.loop-e.values _ _ _ c.loop-e-test.false
      c.loop-e.auto.e-index-end c.loop-e.invariant.answers;
  left = c.loop-e.invariant.left;
}

pub key_in-returns-in_err-values : goal.key_in-returns-in_err-values
key_in-returns-in_err-values _ c = record {
  answers = passed _ _ c.from_residual.ensures.1 (stops_then (λ vs. found (key_of vs)) c.in_err-values.ensures.answers);
  left = c.in_err-values.ensures.left;
}

pub key_in-returns : goal.key_in-returns
key_in-returns _ c = record {
  answers = goes_then (λ vs. found (key_of vs)) c.in_ok-values.ensures.answers
      (calmly _ (same_answers (ap (λ vs. found (key_of vs)) (sym c.deref.ensures.value)) c.key_of.ensures));
  left = c.in_ok-values.ensures.left;
}

pub unfold-returns-in_err-args : goal.unfold-returns-in_err-args
unfold-returns-in_err-args _ c = record {
  answers = passed _ _ c.from_residual.ensures.1 (expression.unfold_args_stop (λ vs. vs.items) (state_of c.args.now.now) (lent c.args.scene)
      (opened_is c.args.opened.now c.deref.ensures.value) c.in_err-args.ensures.answers);
  left = c.in_err-args.ensures.left;
}

pub unfold-returns-in_err-amount : goal.unfold-returns-in_err-amount
unfold-returns-in_err-amount _ c = record {
  answers = passed _ _ c.from_residual-in_err-amount.ensures.1 (expression.unfold_amount_stops (λ vs. vs.items) (state_of c.args.now.now) (lent c.args.scene)
      (opened_is c.args.opened.now c.deref.ensures.value) c.in_ok-args.ensures.answers c.in_err-amount.ensures.answers);
  left = c.in_err-amount.ensures.left ∙ c.in_ok-args.ensures.left;
}

pub unfold-returns : goal.unfold-returns
unfold-returns _ c = record {
  answers = expression.unfold_goes (λ vs. vs.items) (state_of c.args.now.now) (lent c.args.scene) (opened_is c.args.opened.now c.deref.ensures.value)
      c.in_ok-args.ensures.answers c.in_ok-amount.ensures.answers
      (same_answers (ap (λ vs. unfolded_at (opened_of c.args.opened.now) vs c.in_ok-amount.amount (state_of c.args.now.now) (lent c.args.scene)) (sym c.deref-2.ensures.value))
      c.unfold_at.ensures.answers);
  left = c.unfold_at.ensures.left ∙ c.in_ok-amount.ensures.left ∙ c.in_ok-args.ensures.left;
}

pub unfold-unfold_at-requires : goal.unfold-unfold_at-requires
unfold-unfold_at-requires _ c = (
  search (rules, the_lemmas),
  (
    c.requires.opened_within,
    (
      subst (All IsWithinValue) (sym c.deref-2.ensures.value)
          (values_within (λ vs. vs.items) (exprs_of c.deref.result.now) (state_of c.args.now.now) (lent c.args.scene)
          (subst (λ es. AreWithinExprs (exprs_of es)) (sym c.deref.ensures.value) c.requires.opened_within.0) c.requires.now_within c.requires.scene_within
          c.in_ok-args.ensures.answers),
      (c.requires.now_within, c.requires.scene_within),
    ),
  ),
)

pub unfold_at-returns-in_err-key : goal.unfold_at-returns-in_err-key
unfold_at-returns-in_err-key _ c = record {
  answers = passed _ _ c.from_residual.ensures.1 (expression.key_stops (λ (s : State). s) (state_of c.args.now.now) (lent c.args.scene) c.args.args.now c.args.amount
      (opened_is c.args.opened.now refl) c.in_err-key.ensures);
  left = refl;
}

pub unfold_at-returns-in_err-copy : goal.unfold_at-returns-in_err-copy
unfold_at-returns-in_err-copy _ c = record {
  answers = passed _ _ c.from_residual-in_err-copy.ensures.1 no_memory;
  left = refl;
}

pub unfold_at-returns-in_err-take : goal.unfold_at-returns-in_err-take
unfold_at-returns-in_err-take _ c = record {
  answers = passed _ _ c.from_residual-in_err-take.ensures.1 (expression.take_stops (λ _. state_of c.take.new.state) (state_of c.args.now.now) (lent c.args.scene) c.args.args.now
      c.args.amount (opened_is c.args.opened.now refl) c.in_ok-key.ensures
      (taken_at (lent c.args.scene) c.args.amount c.args.opened.now.place c.in_ok-copy.ensures c.of-instance.ensures c.in_err-take.ensures));
  left = refl;
}

pub unfold_at-returns-in_err-content : goal.unfold_at-returns-in_err-content
unfold_at-returns-in_err-content _ c = record {
  answers = passed _ _ c.from_residual-in_err-content.ensures.1 (expression.content_stops (λ _. state_of c.take.new.state) (state_of c.args.now.now) (lent c.args.scene)
      c.args.args.now c.args.amount (opened_is c.args.opened.now refl) c.in_ok-key.ensures
      (taken_at (lent c.args.scene) c.args.amount c.args.opened.now.place c.in_ok-copy.ensures c.of-instance.ensures c.in_ok-take.ensures)
      (found_as_stops (λ d. content_of d.now) _ _ c.in_err-content.ensures ∙ ap found c.content_at-content.ensures));
  left = refl;
}

pub unfold_at-returns-in_err-open_in : goal.unfold_at-returns-in_err-open_in
unfold_at-returns-in_err-open_in _ c = record {
  answers = passed _ _ c.from_residual-in_err-open_in.ensures.1 (expression.open_stops (λ _. state_of c.take.new.state) (state_of c.args.now.now) (lent c.args.scene) c.args.args.now
      c.args.amount (opened_is c.args.opened.now refl) c.in_ok-key.ensures
      (taken_at (lent c.args.scene) c.args.amount c.args.opened.now.place c.in_ok-copy.ensures c.of-instance.ensures c.in_ok-take.ensures)
      (found_as (λ d. content_of d.now) _ _ c.in_ok-content.ensures ∙ ap found c.content_at-content.ensures)
      (same_answers (ap (λ inside. opened Bounded (assertion_of c.args.opened.now.body) (content_of c.in_ok-content.content.now) (state_of c.take.new.state) inside c.args.amount)
      (sym c.with_variables-inside.ensures)) c.in_err-open_in.ensures.answers));
  left = c.in_err-open_in.ensures.left;
}

pub unfold_at-returns : goal.unfold_at-returns
unfold_at-returns _ c = record {
  answers = expression.inner_goes (λ _. state_of c.take.new.state) (state_of c.args.now.now) (lent c.args.scene) c.args.args.now c.args.amount (opened_is c.args.opened.now refl)
      c.in_ok-key.ensures (taken_at (lent c.args.scene) c.args.amount c.args.opened.now.place c.in_ok-copy.ensures c.of-instance.ensures c.in_ok-take.ensures)
      (found_as (λ d. content_of d.now) _ _ c.in_ok-content.ensures ∙ ap found c.content_at-content.ensures)
      (same_answers (ap (λ inside. opened Bounded (assertion_of c.args.opened.now.body) (content_of c.in_ok-content.content.now) (state_of c.take.new.state) inside c.args.amount)
      (sym c.with_variables-inside.ensures)) c.in_ok-open_in.ensures.answers) c.eval_in.ensures.answers;
  left = c.eval_in.ensures.left ∙ c.in_ok-open_in.ensures.left;
}

pub unfold_at-open_in-requires : goal.unfold_at-open_in-requires
unfold_at-open_in-requires _ c = (
  search (rules, the_lemmas),
  (
    c.requires.opened_within.2,
    (
      content_is_within (state_of c.args.now.now) c.args.opened.now.predicate c.in_ok-key.key c.requires.now_within
          (found_as (λ d. content_of d.now) _ _ c.in_ok-content.ensures ∙ ap found c.content_at-content.ensures),
      (
        taken_within (λ _. state_of c.take.new.state) (lent c.args.scene) (state_of c.args.now.now) c.args.opened.now.predicate c.in_ok-key.key c.args.amount
            c.args.opened.now.place c.requires.now_within (key_is_within c.args.args.now c.requires.args_within c.in_ok-key.ensures)
            (taken_at (lent c.args.scene) c.args.amount c.args.opened.now.place c.in_ok-copy.ensures c.of-instance.ensures c.in_ok-take.ensures),
        subst IsWithinScene (sym c.with_variables-inside.ensures) (scene_within c.args.args.now (lent c.args.scene) c.requires.args_within c.requires.scene_within),
      ),
    ),
  ),
)

pub unfold_at-eval_in-requires : goal.unfold_at-eval_in-requires
unfold_at-eval_in-requires _ c = (
  search (rules, the_lemmas),
  (
    c.requires.opened_within.3,
    (
      opened_within (λ _. state_of c.open_in.new.state) (assertion_of c.args.opened.now.body)
          (content_of c.in_ok-content.content.now) (state_of c.take.new.state) (lent c.with_variables-inside.result) c.args.amount c.requires.opened_within.2
          (content_is_within (state_of c.args.now.now) c.args.opened.now.predicate c.in_ok-key.key c.requires.now_within
          (found_as (λ d. content_of d.now) _ _ c.in_ok-content.ensures ∙ ap found c.content_at-content.ensures))
          (taken_within (λ _. state_of c.take.new.state) (lent c.args.scene) (state_of c.args.now.now) c.args.opened.now.predicate c.in_ok-key.key c.args.amount
          c.args.opened.now.place c.requires.now_within (key_is_within c.args.args.now c.requires.args_within c.in_ok-key.ensures)
          (taken_at (lent c.args.scene) c.args.amount c.args.opened.now.place c.in_ok-copy.ensures c.of-instance.ensures c.in_ok-take.ensures))
          (subst IsWithinScene (sym c.with_variables-inside.ensures) (scene_within c.args.args.now (lent c.args.scene) c.requires.args_within c.requires.scene_within))
          c.in_ok-open_in.ensures.answers,
      c.requires.scene_within,
    ),
  ),
)

pub open_in-returns-in_err-truth_of-in-Fact : goal.open_in-returns-in_err-truth_of-in-Fact
open_in-returns-in_err-truth_of-in-Fact _ c = record {
  answers = passed _ _ c.from_residual.ensures.1 (body.fact_stops (content_of c.args.content.now) (state_of c.args.state.now) (lent c.args.scene) c.args.scale
      (ap assertion_of c.in-Fact.is) c.in_err-truth_of-in-Fact.ensures.answers);
  left = c.in_err-truth_of-in-Fact.ensures.left;
}

pub open_in-returns-in_err-assumed-in-Fact : goal.open_in-returns-in_err-assumed-in-Fact
open_in-returns-in_err-assumed-in-Fact _ c = record {
  answers = passed _ _ c.from_residual-in_err-assumed-in-Fact.ensures.1 (body.fact_fails (content_of c.args.content.now) (state_of c.args.state.now) (lent c.args.scene)
      c.args.scale (ap assertion_of c.in-Fact.is) c.in_ok-truth_of-in-Fact.ensures.answers c.in_err-assumed-in-Fact.ensures);
  left = c.in_ok-truth_of-in-Fact.ensures.left;
}

pub open_in-returns-in_err-unit-in-Fact : goal.open_in-returns-in_err-unit-in-Fact
open_in-returns-in_err-unit-in-Fact _ c = record {
  answers = passed _ _ c.from_residual-in_err-unit-in-Fact.ensures.1 (body.fact_goes (content_of c.args.content.now) (state_of c.args.state.now) (lent c.args.scene)
      c.args.scale (ap assertion_of c.in-Fact.is) c.in_ok-truth_of-in-Fact.ensures.answers c.in_ok-assumed-in-Fact.ensures
      (body.unit_stops (content_of c.args.content.now) (state_of c.args.state.now) _ c.in_err-unit-in-Fact.ensures));
  left = c.in_ok-truth_of-in-Fact.ensures.left;
}

pub open_in-returns-in_ok-unit-in-Fact : goal.open_in-returns-in_ok-unit-in-Fact
open_in-returns-in_ok-unit-in-Fact _ c = record {
  answers = body.fact_goes (content_of c.args.content.now) (state_of c.args.state.now) (lent c.args.scene) c.args.scale (ap assertion_of c.in-Fact.is)
      c.in_ok-truth_of-in-Fact.ensures.answers c.in_ok-assumed-in-Fact.ensures
      (body.unit_goes (content_of c.args.content.now) (state_of c.args.state.now) _ _ c.in_ok-unit-in-Fact.ensures refl);
  left = c.in_ok-truth_of-in-Fact.ensures.left;
}

pub open_in-returns-in_err-receiver-in-Acc : goal.open_in-returns-in_err-receiver-in-Acc
open_in-returns-in_err-receiver-in-Acc _ c = record {
  answers = passed _ _ c.from_residual-in_err-receiver-in-Acc.ensures.1 (body.receiver_stops (content_of c.args.content.now) (state_of c.args.state.now) (lent c.args.scene)
      c.args.scale (ap assertion_of c.in-Acc.is) c.in_err-receiver-in-Acc.ensures.answers);
  left = c.in_err-receiver-in-Acc.ensures.left;
}

pub open_in-returns-in_err-amount-in-Acc : goal.open_in-returns-in_err-amount-in-Acc
open_in-returns-in_err-amount-in-Acc _ c = record {
  answers = passed _ _ c.from_residual-in_err-amount-in-Acc.ensures.1 (body.amount_stops (content_of c.args.content.now) (state_of c.args.state.now) (lent c.args.scene)
      c.args.scale (ap assertion_of c.in-Acc.is) c.in_ok-receiver-in-Acc.ensures.answers c.in_err-amount-in-Acc.ensures.answers);
  left = c.in_err-amount-in-Acc.ensures.left ∙ c.in_ok-receiver-in-Acc.ensures.left;
}

pub open_in-returns-in_ok-amount-in-Acc : goal.open_in-returns-in_ok-amount-in-Acc
open_in-returns-in_ok-amount-in-Acc _ c = record {
  answers = body.place_goes (content_of c.args.content.now) (state_of c.args.state.now) (lent c.args.scene) c.args.scale (ap assertion_of c.in-Acc.is)
      c.in_ok-receiver-in-Acc.ensures.answers c.in_ok-amount-in-Acc.ensures.answers
      (placed_at (lent c.args.scene) (content_of c.args.content.now) (state_of c.args.state.now) c.of-place.ensures c.of-share.ensures c.fill_place.ensures.answers);
  left = c.fill_place.ensures.left ∙ c.in_ok-amount-in-Acc.ensures.left ∙ c.in_ok-receiver-in-Acc.ensures.left;
}

pub open_in-key_in-requires : goal.open_in-key_in-requires
open_in-key_in-requires _ c = (
  search (rules, the_lemmas),
  (
    (subst IsWithinAssertion (inst_is c.in-Inst.args c.in-Inst.is c.deref.ensures.value) c.requires.body_within).0,
    (c.requires.state_within, c.requires.scene_within),
  ),
)

pub open_in-returns-in_err-key-in-Inst : goal.open_in-returns-in_err-key-in-Inst
open_in-returns-in_err-key-in-Inst _ c = record {
  answers = passed _ _ c.from_residual-in_err-key-in-Inst.ensures.1 (body.key_stops (content_of c.args.content.now) (state_of c.args.state.now) (lent c.args.scene)
      c.args.scale (inst_is c.in-Inst.args c.in-Inst.is c.deref.ensures.value) c.in_err-key-in-Inst.ensures.answers);
  left = c.in_err-key-in-Inst.ensures.left;
}

pub open_in-returns-in_err-amount-in-Inst : goal.open_in-returns-in_err-amount-in-Inst
open_in-returns-in_err-amount-in-Inst _ c = record {
  answers = passed _ _ c.from_residual-in_err-amount-in-Inst.ensures.1 (body.share_stops (content_of c.args.content.now) (state_of c.args.state.now) (lent c.args.scene)
      c.args.scale (inst_is c.in-Inst.args c.in-Inst.is c.deref.ensures.value) c.in_ok-key-in-Inst.ensures.answers c.in_err-amount-in-Inst.ensures.answers);
  left = c.in_err-amount-in-Inst.ensures.left ∙ c.in_ok-key-in-Inst.ensures.left;
}

pub open_in-returns-in_ok-amount-in-Inst : goal.open_in-returns-in_ok-amount-in-Inst
open_in-returns-in_ok-amount-in-Inst _ c = record {
  answers = body.instance_goes (content_of c.args.content.now) (state_of c.args.state.now) (lent c.args.scene) c.args.scale
      (inst_is c.in-Inst.args c.in-Inst.is c.deref.ensures.value) c.in_ok-key-in-Inst.ensures.answers c.in_ok-amount-in-Inst.ensures.answers
      (filled_at (lent c.args.scene) (content_of c.args.content.now) (state_of c.args.state.now) c.of-instance.ensures c.of-share-in-Inst.ensures
      (calmly _ c.fill_instance.ensures));
  left = c.in_ok-amount-in-Inst.ensures.left ∙ c.in_ok-key-in-Inst.ensures.left;
}

pub open_in-returns-in_err-left-in-And : goal.open_in-returns-in_err-left-in-And
open_in-returns-in_err-left-in-And _ c = record {
  answers = passed _ _ c.from_residual-in_err-left-in-And.ensures.1 (body.pair_stops (λ p. (content_of p.0.now, content_of p.1.now)) (content_of c.args.content.now)
      (state_of c.args.state.now) (lent c.args.scene) c.args.scale (ap assertion_of c.in-And.is) c.in_err-left-in-And.ensures.answers);
  left = c.in_err-left-in-And.ensures.left;
}

pub open_in-open_in-requires : goal.open_in-open_in-requires
open_in-open_in-requires _ c = (
  search (rules, the_lemmas),
  (
    (subst IsWithinAssertion (and_is c.in-And.is c.deref-in-And.ensures refl) c.requires.body_within).0,
    (
      (halves_within (λ p. (content_of p.0.now, content_of p.1.now)) (content_of c.args.content.now) c.requires.content_within c.in_ok-left-in-And.ensures.answers).0,
      (c.requires.state_within, c.requires.scene_within),
    ),
  ),
)

pub open_in-returns-in_err-open_in-in-And : goal.open_in-returns-in_err-open_in-in-And
open_in-returns-in_err-open_in-in-And _ c = record {
  answers = passed _ _ c.from_residual-in_err-open_in-in-And.ensures.1 (body.first_stops (λ p. (content_of p.0.now, content_of p.1.now)) (content_of c.args.content.now)
      (state_of c.args.state.now) (lent c.args.scene) c.args.scale (and_is c.in-And.is c.deref-in-And.ensures refl) c.in_ok-left-in-And.ensures.answers
      c.in_err-open_in-in-And.ensures.answers);
  left = c.in_err-open_in-in-And.ensures.left ∙ c.in_ok-left-in-And.ensures.left;
}

pub open_in-open_in-requires-in-And : goal.open_in-open_in-requires-in-And
open_in-open_in-requires-in-And _ c = (
  search (rules, the_lemmas),
  (
    (subst IsWithinAssertion (and_is c.in-And.is c.deref-in-And.ensures c.deref-in-And-2.ensures) c.requires.body_within).1,
    (
      (halves_within (λ p. (content_of p.0.now, content_of p.1.now)) (content_of c.args.content.now) c.requires.content_within c.in_ok-left-in-And.ensures.answers).1,
      (
        opened_within (λ _. state_of c.open_in.new.state) (assertion_of c.deref-in-And.result.now) (content_of c.in_ok-left-in-And.left.now) (state_of c.args.state.now)
            (lent c.args.scene) c.args.scale (subst IsWithinAssertion (and_is c.in-And.is c.deref-in-And.ensures c.deref-in-And-2.ensures) c.requires.body_within).0
            (halves_within (λ p. (content_of p.0.now, content_of p.1.now)) (content_of c.args.content.now) c.requires.content_within c.in_ok-left-in-And.ensures.answers).0
            c.requires.state_within c.requires.scene_within c.in_ok-open_in-in-And.ensures.answers,
        c.requires.scene_within,
      ),
    ),
  ),
)

pub open_in-returns-in_ok-open_in-in-And : goal.open_in-returns-in_ok-open_in-in-And
open_in-returns-in_ok-open_in-in-And _ c = record {
  answers = body.both_go (λ p. (content_of p.0.now, content_of p.1.now)) (content_of c.args.content.now) (state_of c.args.state.now) (lent c.args.scene) c.args.scale
      (and_is c.in-And.is c.deref-in-And.ensures c.deref-in-And-2.ensures) c.in_ok-left-in-And.ensures.answers c.in_ok-open_in-in-And.ensures.answers c.open_in-in-And.ensures.answers;
  left = c.open_in-in-And.ensures.left ∙ c.in_ok-open_in-in-And.ensures.left ∙ c.in_ok-left-in-And.ensures.left;
}

pub open_in-returns-in_err-truth_of-in-Implies : goal.open_in-returns-in_err-truth_of-in-Implies
open_in-returns-in_err-truth_of-in-Implies _ c = record {
  answers = passed _ _ c.from_residual-in_err-truth_of-in-Implies.ensures.1
      (body.implies_stops (content_of c.args.content.now) (state_of c.args.state.now) (lent c.args.scene) c.args.scale (ap assertion_of c.in-Implies.is)
      c.in_err-truth_of-in-Implies.ensures.answers);
  left = c.in_err-truth_of-in-Implies.ensures.left;
}

pub open_in-returns-then-branch : goal.open_in-returns-then-branch
open_in-returns-then-branch _ c = record {
  answers = body.implies_so (content_of c.args.content.now) (state_of c.args.state.now) (lent c.args.scene) c.args.scale
      (implies_is c.in-Implies.is c.deref-then-branch.ensures) c.in_ok-truth_of-in-Implies.ensures.answers c.if-branch.true c.open_in-then-branch.ensures.answers;
  left = c.open_in-then-branch.ensures.left ∙ c.in_ok-truth_of-in-Implies.ensures.left;
}

pub open_in-returns-in_err-unit-in-Implies : goal.open_in-returns-in_err-unit-in-Implies
open_in-returns-in_err-unit-in-Implies _ c = record {
  answers = passed _ _ c.from_residual-in_err-unit-in-Implies.ensures.1 (body.implies_not (content_of c.args.content.now) (state_of c.args.state.now) (lent c.args.scene)
      c.args.scale (ap assertion_of c.in-Implies.is) c.in_ok-truth_of-in-Implies.ensures.answers c.if-branch.false
      (body.unit_stops (content_of c.args.content.now) (state_of c.args.state.now) _ c.in_err-unit-in-Implies.ensures));
  left = c.in_ok-truth_of-in-Implies.ensures.left;
}

pub open_in-returns-in_ok-unit-in-Implies : goal.open_in-returns-in_ok-unit-in-Implies
open_in-returns-in_ok-unit-in-Implies _ c = record {
  answers = body.implies_not (content_of c.args.content.now) (state_of c.args.state.now) (lent c.args.scene) c.args.scale (ap assertion_of c.in-Implies.is)
      c.in_ok-truth_of-in-Implies.ensures.answers c.if-branch.false
      (body.unit_goes (content_of c.args.content.now) (state_of c.args.state.now) _ _ c.in_ok-unit-in-Implies.ensures refl);
  left = c.in_ok-truth_of-in-Implies.ensures.left;
}

pub open_in-returns-in_err-truth_of-in-Choose : goal.open_in-returns-in_err-truth_of-in-Choose
open_in-returns-in_err-truth_of-in-Choose _ c = record {
  answers = passed _ _ c.from_residual-in_err-truth_of-in-Choose.ensures.1
      (body.choose_stops (content_of c.args.content.now) (state_of c.args.state.now) (lent c.args.scene) c.args.scale (ap assertion_of c.in-Choose.is)
      c.in_err-truth_of-in-Choose.ensures.answers);
  left = c.in_err-truth_of-in-Choose.ensures.left;
}

pub open_in-returns-then-branch-2 : goal.open_in-returns-then-branch-2
open_in-returns-then-branch-2 _ c = record {
  answers = body.choose_so (content_of c.args.content.now) (state_of c.args.state.now) (lent c.args.scene) c.args.scale
      (choice_is c.in-Choose.is c.deref-then-branch-2.ensures refl) c.in_ok-truth_of-in-Choose.ensures.answers c.if-branch-2.true c.open_in-then-branch-2.ensures.answers;
  left = c.open_in-then-branch-2.ensures.left ∙ c.in_ok-truth_of-in-Choose.ensures.left;
}

pub open_in-returns-else-branch-2 : goal.open_in-returns-else-branch-2
open_in-returns-else-branch-2 _ c = record {
  answers = body.choose_not (content_of c.args.content.now) (state_of c.args.state.now) (lent c.args.scene) c.args.scale
      (choice_is c.in-Choose.is refl c.deref-else-branch-2.ensures) c.in_ok-truth_of-in-Choose.ensures.answers c.if-branch-2.false c.open_in-else-branch-2.ensures.answers;
  left = c.open_in-else-branch-2.ensures.left ∙ c.in_ok-truth_of-in-Choose.ensures.left;
}
