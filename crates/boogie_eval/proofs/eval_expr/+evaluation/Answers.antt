-- Each exit of an evaluation, by the steps that led to it.
use Rattle.std.proofs.Common.{arith, rules, sym, ap, ◌∙◌, subst, ◌++◌, ◌+◌, drop}
use Rattle.sparse.specs.Map.{borrowed}
use Rattle.vb_value.specs.Bound.{Bounded}
use Rattle.boogie_tree.specs.Whole.{expr_of, exprs_of, scalar_of}
use Rattle.boogie_tree.specs.declared.exprs.BExpr.{the_lemmas}
use Rattle.boogie_meaning.specs.Ends.{Is, then_with}
use Rattle.boogie_meaning.specs.Operators as o
use Rattle.boogie_meaning.specs.Value.{value, values, body_at}
use Rattle.boogie_meaning.specs.Decided.{is_listed}
use Rattle.boogie_eval.specs.Answers.{Answers, is}
use Rattle.boogie_eval.specs.Columns.{keys_of_columns}
use Rattle.boogie_eval.specs.Searched.{end_elsewhere, with_key, with_keys}
use Rattle.boogie_eval.specs.View.{values_of, scope_of}
use Rattle.boogie_eval.specs.Within.{IsWithinExpr}
use Rattle.boogie_eval.proofs.AnswerLaws.{same_answers, passed, goes_then, answer_is}
use Rattle.boogie_meaning.proofs.NodeLaws.{at_is}
use Rattle.boogie_eval.proofs.OperatorLaws.{truth_again, lazy_truth, plain_binary, plain_truth}
use Rattle.boogie_eval.proofs.IndexLaws.{index_goes, index_stops, indices_end, one_goes, one_stops}
use Rattle.boogie_eval.proofs.BorrowedLaws.{next_borrowed}
use Rattle.boogie_eval.proofs.SearchLaws.{quantified_is}
use Rattle.boogie_eval.proofs.WithinLaws.{all_within, argument_within}
use Rattle.boogie_eval.proofs.eval_expr.+evaluation.Goals as goal

pub unary-applied-requires : goal.unary-applied-requires
unary-applied-requires t c = all_within (values_of c.args.env.now) c.args.scope (expr_of c.args.a.now) c.requires.env_within c.requires.a_within c.eval.ensures

pub binary-plain_with-requires-clause-left_within : goal.binary-plain_with-requires-clause-left_within
binary-plain_with-requires-clause-left_within t c =
    all_within (values_of c.args.env.now) c.args.scope (expr_of c.args.x.now) c.requires.env_within c.requires.x_within (answer_is c.in-Ok.is c.eval.ensures)

pub binary-plain_with-requires-clause-right_within : goal.binary-plain_with-requires-clause-right_within
binary-plain_with-requires-clause-right_within t c =
    all_within (values_of c.args.env.now) c.args.scope (expr_of c.args.y.now) c.requires.env_within c.requires.y_within c.eval-in-Ok.ensures

pub binary-returns-in-Ok : goal.binary-returns-in-Ok
binary-returns-in-Ok t c =
    let env = values_of c.args.env.now in
    let left = value Bounded (scope_of env c.args.scope) (expr_of c.args.x.now) env in
    let right = value Bounded (scope_of env c.args.scope) (expr_of c.args.y.now) env in
    same_answers (plain_binary c.args.op left right (sym c.is_lazy.ensures ∙ c.if-is_lazy.false))
    (goes_then (λ v. then_with right (λ w. o.plain Bounded c.args.op v w)) (answer_is c.in-Ok.is c.eval.ensures) (c.plain_with.ensures _ c.eval-in-Ok.ensures))

pub relates-returns-in-None : goal.relates-returns-in-None
relates-returns-in-None t c =
    let env = values_of c.args.env.now in
    let left = value Bounded (scope_of env c.args.scope) (expr_of c.args.x.now) env in
    let right = value Bounded (scope_of env c.args.scope) (expr_of c.args.y.now) env in
    same_answers (lazy_truth c.args.op left right (sym c.is_lazy.ensures ∙ c.if-is_lazy.true))
    (goes_then (λ p. o.as_truth (o.settled_or (o.settled c.args.op p) right)) (answer_is c.in_ok-holds.was c.holds.ensures)
    (same_answers (ap (λ d. o.as_truth (o.settled_or d right)) (sym c.settled.ensures ∙ c.in-None.is) ∙ truth_again (o.as_truth right)) c.holds-in-None.ensures))

pub relates-relates_to-requires : goal.relates-relates_to-requires
relates-relates_to-requires t c = (
  search (rules, the_lemmas),
  (
    all_within (values_of c.args.env.now) c.args.scope (expr_of c.args.x.now) c.requires.env_within c.requires.x_within (is c.in-Some-place.ensures),
    (c.requires.y_within, (c.requires.env_within, c.requires.scope_fits)),
  ),
)

pub relates-relates_to-requires-in-Ok : goal.relates-relates_to-requires-in-Ok
relates-relates_to-requires-in-Ok t c = (
  search (rules, the_lemmas),
  (
    all_within (values_of c.args.env.now) c.args.scope (expr_of c.args.x.now) c.requires.env_within c.requires.x_within (answer_is c.in-Ok.is c.eval.ensures),
    (c.requires.y_within, (c.requires.env_within, c.requires.scope_fits)),
  ),
)

pub relates-returns-in-Ok : goal.relates-returns-in-Ok
relates-returns-in-Ok t c =
    let env = values_of c.args.env.now in
    let left = value Bounded (scope_of env c.args.scope) (expr_of c.args.x.now) env in
    let right = value Bounded (scope_of env c.args.scope) (expr_of c.args.y.now) env in
    same_answers (plain_truth c.args.op left right (sym c.is_lazy.ensures ∙ c.if-is_lazy.false))
    (goes_then (λ v. then_with right (λ w. o.as_truth (o.plain Bounded c.args.op v w))) (answer_is c.in-Ok.is c.eval.ensures) c.relates_to-in-Ok.ensures)

pub relates_to-plain_truth-requires-clause-right_within : goal.relates_to-plain_truth-requires-clause-right_within
relates_to-plain_truth-requires-clause-right_within t c =
    all_within (values_of c.args.env.now) c.args.scope (expr_of c.args.y.now) c.requires.env_within c.requires.y_within (is c.in-Some.ensures)

pub relates_to-plain_truth-requires-in-Ok-clause-right_within : goal.relates_to-plain_truth-requires-in-Ok-clause-right_within
relates_to-plain_truth-requires-in-Ok-clause-right_within t c =
    all_within (values_of c.args.env.now) c.args.scope (expr_of c.args.y.now) c.requires.env_within c.requires.y_within (answer_is c.in-Ok.is c.eval.ensures)

pub relates_to-returns-in-Ok : goal.relates_to-returns-in-Ok
relates_to-returns-in-Ok t c =
    goes_then (λ w. o.as_truth (o.plain Bounded c.args.op (scalar_of c.args.left.now) w)) (answer_is c.in-Ok.is c.eval.ensures) c.plain_truth-in-Ok.ensures

pub eval-key_of-requires : goal.eval-key_of-requires
eval-key_of-requires t c =
    (search (rules, the_lemmas), (subst IsWithinExpr (at_is c.in-At.es c.in-At.is c.deref-in-At.ensures.value) c.requires.e_within, (c.requires.env_within, c.requires.scope_fits)))

pub eval-returns-in-At : goal.eval-returns-in-At
eval-returns-in-At t c =
    let env = values_of c.args.env.now in
    same_answers (ap (λ e. value Bounded (scope_of env c.args.scope) e env) (at_is c.in-At.es c.in-At.is c.deref-in-At.ensures.value)) (c.value_at.ensures _ c.key_of.ensures)

pub key_of-key_of_one-requires : goal.key_of-key_of_one-requires
key_of-key_of_one-requires t c = (
  search (rules, the_lemmas),
  (
    subst (λ a. IsWithinExpr (expr_of a)) (sym c.index-item.is) (argument_within c.args.es.now 0 c.index-item.result (omega (arith, c.in-len1.len_at_least)) c.requires.es_within),
    (c.requires.env_within, c.requires.scope_fits),
  ),
)

pub key_of-eval-requires : goal.key_of-eval-requires
key_of-eval-requires t c = (
  search (rules, the_lemmas),
  (
    subst (λ a. IsWithinExpr (expr_of a)) (sym c.e-item.is) (argument_within c.args.es.now c.loop-e.e-index c.e-item.result c.loop-e-test.true c.requires.es_within),
    (c.requires.env_within, c.requires.scope_fits),
  ),
)

pub key_of-part_of-requires : goal.key_of-part_of-requires
key_of-part_of-requires t c =
    all_within (values_of c.args.env.now) c.args.scope (expr_of c.e-item.result) c.requires.env_within
    (subst (λ a. IsWithinExpr (expr_of a)) (sym c.e-item.is) (argument_within c.args.es.now c.loop-e.e-index c.e-item.result c.loop-e-test.true c.requires.es_within)) c.eval.ensures

pub key_of-returns-in_err-part_of : goal.key_of-returns-in_err-part_of
key_of-returns-in_err-part_of t c =
    let env = values_of c.args.env.now in
    passed _ _ c.from_residual-in_err-part_of.ensures.1 (index_stops (scope_of env c.args.scope) env c.args.es.now c.loop-e.e-index c.e-item.result c.loop-e-test.true c.e-item.is
    c.loop-e.parts.items c.loop-e.invariant.so_far (c.in_err-part_of.ensures _ c.eval.ensures))

pub key_of-loop-e-preserved : goal.key_of-loop-e-preserved
key_of-loop-e-preserved t c =
    let env = values_of c.args.env.now in
    record {
      so_far = index_goes (scope_of env c.args.scope) env c.args.es.now c.loop-e.e-index c.e-item.result c.loop-e-test.true c.e-item.is
          c.loop-e.parts.items c.loop-e.invariant.so_far (c.in_ok-part_of.ensures _ c.eval.ensures) ∙ ap (λ xs. then_with (values Bounded (scope_of env c.args.scope) (exprs_of (drop (c.loop-e.e-index + 1) c.args.es.now)) env) (λ k. Is (xs ++ k))) (sym c.in_ok-push.ensures.items);
    }

pub key_of-returns : goal.key_of-returns
key_of-returns t c =
    let env = values_of c.args.env.now in
    is (indices_end (scope_of env c.args.scope) env c.args.es.now c.loop-e.e-index c.loop-e.parts.items c.loop-e-test.false c.loop-e.auto.e-index-end c.loop-e.invariant.so_far ∙ ap Is (sym c.new.ensures))

pub key_of_one-part_of-requires : goal.key_of_one-part_of-requires
key_of_one-part_of-requires t c =
    all_within (values_of c.args.env.now) c.args.scope (expr_of c.args.index.now) c.requires.env_within c.requires.index_within c.eval.ensures

pub key_of_one-returns-in_err-part_of : goal.key_of_one-returns-in_err-part_of
key_of_one-returns-in_err-part_of t c =
    let env = values_of c.args.env.now in
    passed _ _ c.from_residual.ensures.1 (one_stops (scope_of env c.args.scope) env c.args.index.now (c.in_err-part_of.ensures _ c.eval.ensures))

pub key_of_one-returns : goal.key_of_one-returns
key_of_one-returns t c =
    let env = values_of c.args.env.now in
    is (one_goes (scope_of env c.args.scope) env c.args.index.now (c.in_ok-part_of.ensures _ c.eval.ensures) ∙ ap Is (sym c.of_one.ensures))

pub quantified-returns : goal.quantified-returns
quantified-returns t c =
    let us = c.args.bases.now in
    let a = expr_of c.args.a.now in
    let env = values_of c.args.env.now in
    let ks = borrowed c.in_ok-keys.keys.items in
    let rest = subst (λ xs. Answers (λ p. p) (end_elsewhere us a env (borrowed xs)) c.elsewhere-rest.result) c.deref-2.ensures.value c.elsewhere-rest.ensures in
    let all = subst (λ xs. Answers (λ p. p) (with_keys us (body_at Bounded a env) (borrowed xs) (end_elsewhere us a env ks)) c.at_keys.result) c.deref-3.ensures.value (c.at_keys.ensures _ rest) in
    same_answers (quantified_is us a env ks (λ k. c.in_ok-keys.ensures k ∙ ap (λ cs. is_listed (keys_of_columns cs) k) c.deref.ensures.value ∙ c.in_ok-columns.ensures.marked k)) all

pub at_keys-loop-key-preserved : goal.at_keys-loop-key-preserved
at_keys-loop-key-preserved t c =
    let us = c.args.bases.now in
    let body = body_at Bounded (expr_of c.args.a.now) (values_of c.args.env.now) in
    record {
      so_far = λ e h.
          let s = c.loop-key.invariant.so_far e h in
          (with_key us body c.key-item.result.now s.0, c.at_key-end.ensures s.0 s.1, s.2 ∙ ap (λ xs. with_keys us body xs s.0) (next_borrowed c.args.list.now c.loop-key.key-index c.key-item.result c.loop-key-test.true c.key-item.is));
    }
