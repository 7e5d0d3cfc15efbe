-- What falls at each call of the cycle, and the keys and the indices that are left.
use Rattle.std.proofs.Common.{◌≡◌, ◌+◌, ◌*◌, ◌++◌, Bool, drop, max}
use Rattle.sparse.specs.Map.{borrowed}
use Rattle.vb_value.specs.Bound.{Bounded}
use Rattle.boogie_tree.proofs.exprs.BExpr.TheLaws.{the_size}
use Rattle.boogie_tree.specs.Whole.{expr_of, exprs_of}
use Rattle.boogie_meaning.specs.Ends.{End, Is, then_with}
use Rattle.boogie_meaning.specs.Value.{values, body_at}
use Rattle.boogie_eval.specs.Answers.{Answers}
use Rattle.boogie_eval.specs.Searched.{with_keys}
use Rattle.boogie_eval.specs.View.{values_of, scope_of}
use Rattle.boogie_eval.proofs.eval_expr.+evaluation.Given as goal

abbrev pub invariant-at_keys-loop-key : goal.invariant-at_keys-loop-key
invariant-at_keys-loop-key l = record {
  so_far : (e : End Bool) → Answers (λ p. p) e l.fn.rest → (f : End Bool) × Answers (λ p. p) f l.end ×
      (with_keys l.bases (body_at Bounded (expr_of l.a) (values_of l.env)) (borrowed l.list) e ≡ with_keys l.bases (body_at Bounded (expr_of l.a) (values_of l.env)) (drop l.key-index (borrowed l.list)) f);
}

abbrev pub invariant-key_of-loop-e : goal.invariant-key_of-loop-e
invariant-key_of-loop-e l = record {
  so_far : values Bounded (scope_of (values_of l.env) l.scope) (exprs_of l.es) (values_of l.env) ≡
      then_with (values Bounded (scope_of (values_of l.env) l.scope) (exprs_of (drop l.e-index l.es)) (values_of l.env)) (λ k. Is (l.parts.items ++ k));
}

abbrev pub decreases-eval : goal.decreases-eval
decreases-eval l = 6 * goal.size-eval l

abbrev pub decreases-holds : goal.decreases-holds
decreases-holds l = 6 * goal.size-holds l + 1

abbrev pub decreases-unary : goal.decreases-unary
decreases-unary l = 6 * goal.size-unary l + 1

abbrev pub decreases-key_of : goal.decreases-key_of
decreases-key_of l = 6 * goal.size-key_of l + 2

abbrev pub decreases-key_of_one : goal.decreases-key_of_one
decreases-key_of_one l = 6 * goal.size-key_of_one l + 1

abbrev pub decreases-pair : goal.decreases-pair
decreases-pair l = 6 * max (the_size l.x.now) (the_size l.y.now) + 1

abbrev pub decreases-relates_to : goal.decreases-relates_to
decreases-relates_to l = 6 * goal.size-relates_to l + 1

abbrev pub decreases-relates : goal.decreases-relates
decreases-relates l = 6 * max (the_size l.x.now) (the_size l.y.now) + 2

abbrev pub decreases-binary : goal.decreases-binary
decreases-binary l = 6 * max (the_size l.x.now) (the_size l.y.now) + 3

abbrev pub decreases-at_key : goal.decreases-at_key
decreases-at_key l = 6 * goal.size-at_key l + 2

abbrev pub decreases-elsewhere : goal.decreases-elsewhere
decreases-elsewhere l = 6 * goal.size-elsewhere l + 2

abbrev pub decreases-at_keys : goal.decreases-at_keys
decreases-at_keys l = 6 * goal.size-at_keys l + 3

abbrev pub decreases-quantified : goal.decreases-quantified
decreases-quantified l = 6 * goal.size-quantified l + 4

abbrev pub decreases-forall_in : goal.decreases-forall_in
decreases-forall_in l = 6 * goal.size-forall_in l + 5
