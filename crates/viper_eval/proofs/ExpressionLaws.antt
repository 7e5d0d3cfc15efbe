-- How an expression ends, by the ends of its parts: one lemma for each exit of the program.
use Rattle.std.proofs.Common.{◌≡◌, refl, sym, ap, ℕ, Bool, true, false, Some, None, List, [], Result, Ok, Err, if◌then◌else◌}
use Rattle.vb_base.specs.declared.places.Pos.{Pos}
use Rattle.vb_value.specs.Bound.{Bounded}
use Rattle.vb_value.specs.Content.{Content}
use Rattle.vb_value.specs.Fraction.{Fraction}
use Rattle.vb_value.specs.declared.values.Value.{Value}
use Rattle.vb_value.specs.declared.values.Value.TheVariants as variant
use Rattle.viper_core.specs.Expr as t
use Rattle.viper_core.specs.declared.exprs.Op.{Op}
use Rattle.viper_state.specs.State.{Key, State, content_at}
use Rattle.viper_state.specs.Event.{Event}
use Rattle.viper_state.specs.Run.{Scene, with_variables}
use Rattle.viper_meaning.specs.Ends.{Evaluated, ends, is, then_with, found}
use Rattle.viper_meaning.specs.Operators.{class_of, negative, negation}
use Rattle.viper_meaning.specs.Places.{read_field, key_of, taken}
use Rattle.viper_meaning.specs.Value.{value, unfolded, values, opened, truth_in, perm_in, ref_in}
use Rattle.viper_eval.specs.Answers.{Answers, stopped}
use Rattle.viper_eval.specs.Lazy.{settled_by, combined}
use Rattle.viper_eval.specs.Steps.{unfolded_at}
use Rattle.viper_eval.specs.declared.answers.EvalStop.{EvalStop}
use Rattle.viper_eval.specs.declared.answers.EvalHalt.{EvalHalt}
use Rattle.viper_eval.specs.declared.answers.EvalHalt.TheVariants as halt
use Rattle.viper_eval.proofs.AnswerLaws.{same_answers, goes_then, stops_then, calm_then, calm_stop, calmly, ends_with, if_so, if_not}
use Rattle.viper_eval.proofs.OperatorLaws.{decided, from_left, binary_way}

-- the answer for an expression, between these events
abbrev pub Reads : State → Scene → t.Expr → List Event → List Event → Result Value EvalHalt → Type 0
Reads st sc e b n r = Answers {X = Value} (λ v. v) b (value Bounded e st sc) n r

module _ (st : State) (sc : Scene) {e : t.Expr} {b n : List Event} {r : Result Value EvalHalt} where
  -- the answer for the same tree
  pub of_expr : (f : t.Expr) → e ≡ f → Reads st sc f b n r → Reads st sc e b n r
  of_expr f same p = same_answers (ap (λ e. value Bounded e st sc) same) p

-- ---- one part

module _ (st : State) (sc : Scene) {e a : t.Expr} {b n : List Event} where
  pub neg_stops : {w : EvalHalt} → e ≡ t.Neg a → Reads st sc a b n (Err w) → Reads st sc e b n (Err w)
  neg_stops same h = of_expr st sc (t.Neg a) same (stops_then negative h)

  pub neg_goes : {m : List Event} {v : Value} {r : Result Value EvalHalt} → e ≡ t.Neg a → Reads st sc a b m (Ok v) → Answers {X = Value} (λ v. v) m (negative v) n r → Reads st sc e b n r
  neg_goes same h k = of_expr st sc (t.Neg a) same (goes_then negative h k)

  pub not_stops : {w : EvalHalt} → e ≡ t.Not a → Reads st sc a b n (Err w) → Reads st sc e b n (Err w)
  not_stops same h = of_expr st sc (t.Not a) same (stops_then negation h)

  pub not_goes : {m : List Event} {v : Value} {r : Result Value EvalHalt} → e ≡ t.Not a → Reads st sc a b m (Ok v) → Answers {X = Value} (λ v. v) m (negation v) n r → Reads st sc e b n r
  not_goes same h k = of_expr st sc (t.Not a) same (goes_then negation h k)

-- ---- a field

module _ (st : State) (sc : Scene) {e a : t.Expr} {field : ℕ} {at : Pos} {b n : List Event} (same : e ≡ t.Field a field at) where
  pub field_stops : {w : EvalHalt} → Answers {X = ℕ} (λ r. r) b (ref_in Bounded a st sc) n (Err w) → Reads st sc e b n (Err w)
  field_stops h = of_expr st sc (t.Field a field at) same (stops_then (read_field sc st field at) h)

  pub field_goes : {m : List Event} {x : ℕ} {r : Result Value EvalHalt} → Answers (λ r. r) b (ref_in Bounded a st sc) m (Ok x) →
      Answers {X = Value} (λ v. v) m (read_field sc st field at x) n r → Reads st sc e b n r
  field_goes h k = of_expr st sc (t.Field a field at) same (goes_then (read_field sc st field at) h k)

-- ---- a choice

module _ (st : State) (sc : Scene) {e a x y : t.Expr} (same : e ≡ t.Choose a x y) where
  abbrev chosen : Bool → Evaluated Value
  chosen holds = if holds then value Bounded x st sc else value Bounded y st sc

  module _ {b n : List Event} where
    pub choose_stops : {w : EvalHalt} → Answers {X = Bool} (λ h. h) b (truth_in Bounded a st sc) n (Err w) → Reads st sc e b n (Err w)
    choose_stops h = of_expr st sc (t.Choose a x y) same (stops_then chosen h)

    pub choose_so : {m : List Event} {holds : Bool} {r : Result Value EvalHalt} → Answers (λ h. h) b (truth_in Bounded a st sc) m (Ok holds) → holds ≡ true → Reads st sc x m n r → Reads st sc e b n r
    choose_so h so k = of_expr st sc (t.Choose a x y) same (goes_then chosen h (if_so _ _ _ so k))

    pub choose_not : {m : List Event} {holds : Bool} {r : Result Value EvalHalt} → Answers (λ h. h) b (truth_in Bounded a st sc) m (Ok holds) → holds ≡ false → Reads st sc y m n r → Reads st sc e b n r
    choose_not h so k = of_expr st sc (t.Choose a x y) same (goes_then chosen h (if_not _ _ _ so k))

-- ---- an operator

module _ (st : State) (sc : Scene) {e x y : t.Expr} {o : Op} {at : Pos} (same : e ≡ t.Bin o x y at) where
  abbrev right : Evaluated Value
  right = value Bounded y st sc

  abbrev rest : Value → Evaluated Value
  rest v = from_left (class_of o) sc o right at v

  module _ {b n : List Event} where
    by_sides : {r : Result Value EvalHalt} → Answers {X = Value} (λ v. v) b (then_with (value Bounded x st sc) rest) n r → Reads st sc e b n r
    by_sides p = of_expr st sc (t.Bin o x y at) same (same_answers (binary_way sc o (value Bounded x st sc) right at) p)

    pub left_stops : {w : EvalHalt} → Reads st sc x b n (Err w) → Reads st sc e b n (Err w)
    left_stops h = by_sides (stops_then rest h)

    pub settling_stops : {v : Value} {w : EvalStop} → Reads st sc x b n (Ok v) → ends [] (stopped w) ≡ settled_by (class_of o) o v → Reads st sc e b n (Err (halt.Stops w))
    settling_stops {v = v} {w = w} h s = by_sides (goes_then rest h (calm_stop (λ d. decided (class_of o) sc o right at v d) w s))

    pub left_settles : {v : Value} {a : Bool} → Reads st sc x b n (Ok v) → is (Some a) ≡ settled_by (class_of o) o v → Reads st sc e b n (Ok (variant.Bool a))
    left_settles {v = v} {a = a} h s = by_sides (goes_then rest h (calm_then (λ d. decided (class_of o) sc o right at v d) s (ends_with {u = λ (v : Value). v} (variant.Bool a) refl)))

    pub right_stops : {m : List Event} {v : Value} {w : EvalHalt} → Reads st sc x b m (Ok v) → is None ≡ settled_by (class_of o) o v → Reads st sc y m n (Err w) → Reads st sc e b n (Err w)
    right_stops {v = v} h s k = by_sides (goes_then rest h (calm_then (λ d. decided (class_of o) sc o right at v d) s (stops_then (λ w. combined (class_of o) sc o v w at) k)))

    pub both_go : {m k : List Event} {v w : Value} {r : Result Value EvalHalt} → Reads st sc x b m (Ok v) → is None ≡ settled_by (class_of o) o v → Reads st sc y m k (Ok w) →
        Answers {X = Value} (λ v. v) k (combined (class_of o) sc o v w at) n r → Reads st sc e b n r
    both_go {v = v} h s k j = by_sides (goes_then rest h (calm_then (λ d. decided (class_of o) sc o right at v d) s (goes_then (λ w. combined (class_of o) sc o v w at) k j)))

-- ---- an unfolding

module _ {Z : Type 0} (view : Z → List Value) (st : State) (sc : Scene) {o : t.Opened} {p : ℕ} {args : t.Exprs} {amount inner : t.Expr} {body : t.Assertion} {at : Pos}
    (same : o ≡ t.opened p args amount body inner at) where
  abbrev with_args : List Value → Evaluated Value
  with_args vs = then_with (perm_in Bounded amount st sc) (λ q. unfolded_at (t.opened p args amount body inner at) vs q st sc)

  module _ {b n : List Event} where
    of_opened : {r : Result Value EvalHalt} → Answers {X = Value} (λ v. v) b (unfolded Bounded (t.opened p args amount body inner at) st sc) n r → Answers {X = Value} (λ v. v) b (unfolded Bounded o st sc) n r
    of_opened h = same_answers (ap (λ o. unfolded Bounded o st sc) same) h

    pub unfold_args_stop : {w : EvalHalt} → Answers view b (values Bounded args st sc) n (Err w) → Answers {X = Value} (λ v. v) b (unfolded Bounded o st sc) n (Err w)
    unfold_args_stop h = of_opened (stops_then with_args h)

    pub unfold_amount_stops : {m : List Event} {z : Z} {w : EvalHalt} → Answers view b (values Bounded args st sc) m (Ok z) → Answers {X = Fraction} (λ q. q) m (perm_in Bounded amount st sc) n (Err w) →
        Answers {X = Value} (λ v. v) b (unfolded Bounded o st sc) n (Err w)
    unfold_amount_stops {z = z} h k = of_opened (goes_then with_args h (stops_then (λ q. unfolded_at (t.opened p args amount body inner at) (view z) q st sc) k))

    pub unfold_goes : {m k : List Event} {z : Z} {q : Fraction} {r : Result Value EvalHalt} → Answers view b (values Bounded args st sc) m (Ok z) → Answers (λ q. q) m (perm_in Bounded amount st sc) k (Ok q) →
        Answers {X = Value} (λ v. v) k (unfolded_at o (view z) q st sc) n r → Answers {X = Value} (λ v. v) b (unfolded Bounded o st sc) n r
    unfold_goes {z = z} {q = q} h a i =
        of_opened (goes_then with_args h (goes_then (λ q. unfolded_at (t.opened p args amount body inner at) (view z) q st sc) a
        (same_answers (ap (λ o. unfolded_at o (view z) q st sc) (sym same)) i)))

module _ {Z : Type 0} (view : Z → State) (st : State) (sc : Scene) (vs : List Value) (q : Fraction) {o : t.Opened} {p : ℕ} {args : t.Exprs} {amount inner : t.Expr} {body : t.Assertion} {at : Pos}
    (same : o ≡ t.opened p args amount body inner at) where
  abbrev filled : State → Content → Evaluated Value
  filled less c = then_with (opened Bounded body c less (with_variables vs sc) q) (λ copy. value Bounded inner copy sc)

  abbrev emptied : Key → State → Evaluated Value
  emptied key less = then_with (found (content_at st p key)) (filled less)

  abbrev with_key : Key → Evaluated Value
  with_key key = then_with (taken Bounded sc st p key q at) (emptied key)

  module _ {b n : List Event} {r : Result Value EvalHalt} where
    of_held : Answers {X = Value} (λ v. v) b (unfolded_at (t.opened p args amount body inner at) vs q st sc) n r → Answers {X = Value} (λ v. v) b (unfolded_at o vs q st sc) n r
    of_held h = same_answers (ap (λ o. unfolded_at o vs q st sc) same) h

  module _ {b : List Event} where
    pub key_stops : {w : EvalHalt} → Answers {X = Key} (λ key. key) [] (found (key_of vs)) [] (Err w) → Answers {X = Value} (λ v. v) b (unfolded_at o vs q st sc) b (Err w)
    key_stops h = of_held (stops_then with_key (calmly b h))

    module _ {key : Key} (known : Answers {X = Key} (λ key. key) [] (found (key_of vs)) [] (Ok key)) where
      pub take_stops : {w : EvalHalt} → Answers view [] (taken Bounded sc st p key q at) [] (Err w) → Answers {X = Value} (λ v. v) b (unfolded_at o vs q st sc) b (Err w)
      take_stops h = of_held (goes_then with_key (calmly b known) (stops_then (emptied key) (calmly b h)))

      module _ {z : Z} (took : Answers view [] (taken Bounded sc st p key q at) [] (Ok z)) where
        pub content_stops : {w : EvalStop} → ends [] (stopped w) ≡ found (content_at st p key) → Answers {X = Value} (λ v. v) b (unfolded_at o vs q st sc) b (Err (halt.Stops w))
        content_stops {w = w} gone = of_held (goes_then with_key (calmly b known) (goes_then (emptied key) (calmly b took) (calm_stop (filled (view z)) w gone)))

        module _ {c : Content} (there : is c ≡ found (content_at st p key)) where
          pub open_stops : {Y : Type 0} {after : Y → State} {n : List Event} {w : EvalHalt} → Answers after b (opened Bounded body c (view z) (with_variables vs sc) q) n (Err w) →
              Answers {X = Value} (λ v. v) b (unfolded_at o vs q st sc) n (Err w)
          open_stops h = of_held (goes_then with_key (calmly b known) (goes_then (emptied key) (calmly b took) (calm_then (filled (view z)) there (stops_then (λ copy. value Bounded inner copy sc) h))))

          pub inner_goes : {Y : Type 0} {after : Y → State} {y : Y} {m n : List Event} {r : Result Value EvalHalt} → Answers after b (opened Bounded body c (view z) (with_variables vs sc) q) m (Ok y) →
              Reads (after y) sc inner m n r → Answers {X = Value} (λ v. v) b (unfolded_at o vs q st sc) n r
          inner_goes h k = of_held (goes_then with_key (calmly b known) (goes_then (emptied key) (calmly b took) (calm_then (filled (view z)) there (goes_then (λ copy. value Bounded inner copy sc) h k))))
