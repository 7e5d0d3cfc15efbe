-- The values of arguments, one after the other.
use Rattle.std.proofs.Common.{◌≡◌, sym, ap, ◌∙◌, ℕ, ◌+◌, ◌<◌, ◌≤◌, length, drop, get_or, List, [], ◌∷◌, ◌++◌, append_assoc, Ok, Err}
use Rattle.std.proofs.lemmas.List.{append-nil}
use Rattle.vb_value.specs.declared.values.Value.{Value}
use Rattle.viper_core.specs.View.{expr_of, exprs_of}
use Rattle.viper_core.proofs.NodeLaws.{next_argument, no_argument}
use Rattle.viper_core.specs.declared.exprs.Expr as expr
use Rattle.viper_state.specs.State.{State}
use Rattle.viper_state.specs.Event.{Event}
use Rattle.viper_state.specs.Run.{Scene}
use Rattle.vb_value.specs.Bound.{Bounded}
use Rattle.viper_meaning.specs.Ends.{Evaluated, ends, Is, is, after, then_with}
use Rattle.viper_meaning.specs.Value.{value, values}
use Rattle.viper_eval.specs.Answers.{Answers, goes}
use Rattle.viper_eval.specs.declared.answers.EvalHalt.{EvalHalt}
use Rattle.viper_eval.proofs.AnswerLaws.{the_value, answers_at, stops_then, then_after, then_same, then_then}

-- the values of the arguments that are left, behind those so far
abbrev pub behind : List Value → Evaluated (List Value) → Evaluated (List Value)
behind items rest = then_with rest (λ vs. is (items ++ vs))

-- the values of one argument and of those after it
abbrev pub led_by : Evaluated Value → Evaluated (List Value) → Evaluated (List Value)
led_by e rest = then_with e (λ v. then_with rest (λ vs. is (v ∷ vs)))

moved : (items : List Value) (v : Value) (rest : Evaluated (List Value)) → behind items (then_with rest (λ vs. is (v ∷ vs))) ≡ behind (items ++ v ∷ []) rest
moved items v rest = then_then rest (λ vs. is (v ∷ vs)) (λ vs. is (items ++ vs)) ∙ then_same rest _ _ (λ vs. ap is (sym (append_assoc items (v ∷ []) vs)))

step : (m n : List Event) (e : Evaluated Value) (v : Value) (rest : Evaluated (List Value)) (items : List Value) →
    after m e ≡ ends n (Is v) → after m (behind items (led_by e rest)) ≡ after n (behind (items ++ v ∷ []) rest)
step m n e v rest items here =
    ap (after m) (then_then e (λ v. then_with rest (λ vs. is (v ∷ vs))) (λ vs. is (items ++ vs)))
    ∙ then_after m n e v (λ v. behind items (then_with rest (λ vs. is (v ∷ vs)))) here ∙ ap (after n) (moved items v rest)

module _ (es : List expr.Expr) (i : ℕ) (st : State) (sc : Scene) where
  -- the values of the arguments from this one on, behind those so far
  abbrev from_here : List Value → Evaluated (List Value)
  from_here items = behind items (values Bounded (exprs_of (drop i es)) st sc)

  abbrev rest : Evaluated (List Value)
  rest = values Bounded (exprs_of (drop (i + 1) es)) st sc

  split_off : (e : expr.Expr) (items : List Value) → i < length es → e ≡ get_or es i e → from_here items ≡ behind items (led_by (value Bounded (expr_of e) st sc) rest)
  split_off e items lt is = ap (λ xs. behind items (values Bounded (exprs_of xs) st sc)) (next_argument es i e lt is)

  pub argument_goes : (e : expr.Expr) (items more : List Value) (all : Evaluated (List Value)) (b m n : List Event) (v : Value) → i < length es → e ≡ get_or es i e → more ≡ items ++ v ∷ [] →
      after b all ≡ after m (from_here items) → Answers (λ v. v) m (value Bounded (expr_of e) st sc) n (Ok v) → after b all ≡ after n (behind more rest)
  argument_goes e items more all b m n v lt is pushed so_far here =
      so_far ∙ ap (after m) (split_off e items lt is) ∙ step m n (value Bounded (expr_of e) st sc) v rest items (the_value here) ∙ ap (λ xs. after n (behind xs rest)) (sym pushed)

  pub argument_stops : {X : Type 0} (view : X → List Value) (e : expr.Expr) (items : List Value) (all : Evaluated (List Value)) (b m s : List Event) (w : EvalHalt) → i < length es → e ≡ get_or es i e →
      after b all ≡ after m (from_here items) → Answers {X = Value} (λ v. v) m (value Bounded (expr_of e) st sc) s (Err w) → Answers view b all s (Err w)
  argument_stops view e items all b m s w lt same so_far here =
      answers_at (so_far ∙ ap (after m) (split_off e items lt same)) (stops_then {v = λ (vs : List Value). vs} (λ vs. is (items ++ vs)) (stops_then {v = λ (v : Value). v} (λ v. then_with rest (λ vs. is (v ∷ vs))) here))

  pub arguments_end : {X : Type 0} (view : X → List Value) (x : X) (all : Evaluated (List Value)) (b m : List Event) → length es ≤ i → i ≤ length es → after b all ≡ after m (from_here (view x)) → Answers view b all m (Ok x)
  arguments_end view x all b m above below so_far =
      goes (so_far ∙ ap (λ xs. after m (behind (view x) (values Bounded (exprs_of xs) st sc))) (no_argument es i above below) ∙ (λ k. ends (append-nil m k) (Is (append-nil (view x) k))))
