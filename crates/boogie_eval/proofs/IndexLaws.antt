-- The parts so far, and then those of the indices that are left.
use Rattle.std.proofs.Common.{◌≡◌, refl, sym, ap, ◌∙◌, ℕ, ◌+◌, ◌<◌, ◌≤◌, length, drop, get_or, List, [], ◌∷◌, ◌++◌, append_assoc, Ok, Err, arith}
use Rattle.std.proofs.lemmas.List.{append-nil}
use Rattle.lemmas.proofs.Lists.{next_item, none_at}
use Rattle.vb_value.specs.Bound.{Bounded}
use Rattle.vb_value.specs.declared.keys.KeyPart.{KeyPart}
use Rattle.boogie_tree.specs.Value.{Key, BValue}
use Rattle.boogie_tree.specs.Whole.{expr_of, exprs_of}
use Rattle.boogie_tree.specs.declared.exprs.BExpr as expr
use Rattle.boogie_meaning.specs.Ends.{End, Is, Over, Wrong, then_with}
use Rattle.boogie_meaning.specs.Operators.{part_of}
use Rattle.boogie_meaning.specs.Value.{QuantifierScope, value, values}
use Rattle.boogie_eval.specs.Answers.{Answers}
use Rattle.boogie_eval.specs.declared.eval_ends.Miss.{Miss}
use Rattle.boogie_eval.proofs.AnswerLaws.{the_value, same_answers, then_then, stops_then}

pub then_is : {X : Type 0} (e : End X) → e ≡ then_with e (λ x. Is x)
then_is (Is x) = refl
then_is Over = refl
then_is Wrong = refl

module _ (w : QuantifierScope) (env : List BValue) where
  rest-of : List expr.BExpr → Key → KeyPart → End Key
  rest-of es front p = then_with (values Bounded w (exprs_of es) env) (λ k. Is (front ++ (p ∷ k)))

  -- the first index, then the others
  first-then : (a : expr.BExpr) (es : List expr.BExpr) (front : Key) →
      then_with (values Bounded w (exprs_of (a ∷ es)) env) (λ k. Is (front ++ k)) ≡
      then_with (then_with (value Bounded w (expr_of a) env) part_of) (λ p. then_with (values Bounded w (exprs_of es) env) (λ k. Is (front ++ (p ∷ k))))
  first-then a es front = by (value Bounded w (expr_of a) env)
    where
      by : (e : End _) → then_with (then_with e (λ v. then_with (part_of v) (λ p. then_with (values Bounded w (exprs_of es) env) (λ k. Is (p ∷ k))))) (λ k. Is (front ++ k)) ≡
          then_with (then_with e part_of) (λ p. then_with (values Bounded w (exprs_of es) env) (λ k. Is (front ++ (p ∷ k))))
      by (Is v) =
          then_then (part_of v) (λ p. then_with (values Bounded w (exprs_of es) env) (λ k. Is (p ∷ k))) (λ k. Is (front ++ k)) ∙
          (λ i. then_with (part_of v) (λ p. then_then (values Bounded w (exprs_of es) env) (λ k. Is (p ∷ k)) (λ k. Is (front ++ k)) i))
      by Over = refl
      by Wrong = refl

  module _ (es : List expr.BExpr) (i : ℕ) (a : expr.BExpr) (lt : i < length es) (here : a ≡ get_or es i a) (front : Key)
      (so_far : values Bounded w (exprs_of es) env ≡ then_with (values Bounded w (exprs_of (drop i es)) env) (λ k. Is (front ++ k))) where
    from-here : values Bounded w (exprs_of es) env ≡
        then_with (then_with (value Bounded w (expr_of a) env) part_of) (λ p. then_with (values Bounded w (exprs_of (drop (i + 1) es)) env) (λ k. Is (front ++ (p ∷ k))))
    from-here = so_far ∙ ap (λ xs. then_with (values Bounded w (exprs_of xs) env) (λ k. Is (front ++ k))) (next_item es i a lt here) ∙ first-then a (drop (i + 1) es) front

    pub index_goes : {p : KeyPart} → Answers (λ p. p) (then_with (value Bounded w (expr_of a) env) part_of) (Ok p) →
        values Bounded w (exprs_of es) env ≡ then_with (values Bounded w (exprs_of (drop (i + 1) es)) env) (λ k. Is ((front ++ p ∷ []) ++ k))
    index_goes {p} h =
        from-here ∙ ap (λ e. then_with e (λ p. then_with (values Bounded w (exprs_of (drop (i + 1) es)) env) (λ k. Is (front ++ (p ∷ k))))) (the_value h) ∙
        (λ j. then_with (values Bounded w (exprs_of (drop (i + 1) es)) env) (λ k. Is (sym (append_assoc front (p ∷ []) k) j)))

    pub index_stops : {X : Type 0} {u : X → Key} {m : Miss} → Answers (λ p. p) (then_with (value Bounded w (expr_of a) env) part_of) (Err m) → Answers u (values Bounded w (exprs_of es) env) (Err m)
    index_stops h = same_answers from-here (stops_then (λ p. then_with (values Bounded w (exprs_of (drop (i + 1) es)) env) (λ k. Is (front ++ (p ∷ k)))) h)

  pub indices_end : (es : List expr.BExpr) (i : ℕ) (front : Key) → length es ≤ i → i ≤ length es →
      values Bounded w (exprs_of es) env ≡ then_with (values Bounded w (exprs_of (drop i es)) env) (λ k. Is (front ++ k)) → values Bounded w (exprs_of es) env ≡ Is front
  indices_end es i front above below so_far =
      so_far ∙ ap (λ xs. then_with (values Bounded w (exprs_of xs) env) (λ k. Is (front ++ k))) (none_at es i above below) ∙ ap Is (append-nil front)

  -- one index alone
  pub one_goes : (a : expr.BExpr) {p : KeyPart} → Answers (λ p. p) (then_with (value Bounded w (expr_of a) env) part_of) (Ok p) → values Bounded w (exprs_of (a ∷ [])) env ≡ Is (p ∷ [])
  one_goes a h = index_goes (a ∷ []) 0 a (omega arith) refl [] (then_is _) h

  pub one_stops : (a : expr.BExpr) {X : Type 0} {u : X → Key} {m : Miss} → Answers (λ p. p) (then_with (value Bounded w (expr_of a) env) part_of) (Err m) →
      Answers u (values Bounded w (exprs_of (a ∷ [])) env) (Err m)
  one_stops a h = index_stops (a ∷ []) 0 a (omega arith) refl [] (then_is _) h
