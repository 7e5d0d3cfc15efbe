-- How the body of a predicate is opened, by the ends of its parts: one lemma for each exit of the program.
use Rattle.std.proofs.Common.{◌≡◌, ap, ℕ, Bool, true, false, List, [], Result, Ok, Err, if◌then◌else◌}
use Rattle.std.specs.Prelude.{⊤}
use Rattle.vb_base.specs.declared.places.Pos.{Pos}
use Rattle.vb_value.specs.Bound.{Bounded}
use Rattle.vb_value.specs.Content.{Content}
use Rattle.vb_value.specs.Fraction.{Fraction}
use Rattle.viper_core.specs.Expr as t
use Rattle.viper_state.specs.State.{Key, State}
use Rattle.viper_state.specs.Event.{Event}
use Rattle.viper_state.specs.Run.{Scene}
use Rattle.viper_meaning.specs.Ends.{Evaluated, ends, is, blocks, then_with}
use Rattle.viper_meaning.specs.Places.{unit_of, pair_of, fill_place, fill_instance}
use Rattle.viper_meaning.specs.Value.{amount_of, opened, truth_in, ref_in, key_in}
use Rattle.viper_eval.specs.Answers.{Answers, stopped}
use Rattle.viper_eval.specs.Steps.{assumed}
use Rattle.viper_eval.specs.declared.answers.EvalStop.{EvalStop}
use Rattle.viper_eval.specs.declared.answers.EvalHalt.{EvalHalt}
use Rattle.viper_eval.specs.declared.answers.EvalHalt.TheVariants as halt
use Rattle.viper_eval.proofs.AnswerLaws.{same_answers, goes_then, stops_then, calm_then, calm_stop, ends_with, stops_with, if_so, if_not, assumed_holds, assumed_fails}

module _ (c : Content) (st : State) (sc : Scene) (k : Fraction) {Z : Type 0} {u : Z → State} {a : t.Assertion} {b n : List Event} {r : Result Z EvalHalt} where
  of_body : (x : t.Assertion) → a ≡ x → Answers u b (opened Bounded x c st sc k) n r → Answers u b (opened Bounded a c st sc k) n r
  of_body x same p = same_answers (ap (λ a. opened Bounded a c st sc k) same) p

-- ---- what fills nothing

module _ {Z : Type 0} {u : Z → State} {b : List Event} (c : Content) (st : State) where
  pub unit_stops : (w : EvalStop) → ends [] (stopped w) ≡ unit_of c → Answers u b (then_with (unit_of c) (λ x. is st)) b (Err (halt.Stops w))
  unit_stops w h = calm_stop (λ x. is st) w h

  pub unit_goes : (x : ⊤) (z : Z) → is x ≡ unit_of c → u z ≡ st → Answers u b (then_with (unit_of c) (λ x. is st)) b (Ok z)
  unit_goes x z h same = calm_then (λ x. is st) h (ends_with z (ap is same))

-- ---- facts, and what is chosen

module _ (c : Content) (st : State) (sc : Scene) (k : Fraction) {a : t.Assertion} {e : t.Expr} {at : Pos} (same : a ≡ t.Fact e at) where
  abbrev if_fact : Bool → Evaluated State
  if_fact holds = if holds then then_with (unit_of c) (λ x. is st) else blocks

  module _ {Z : Type 0} {u : Z → State} {b n : List Event} where
    pub fact_stops : {w : EvalHalt} → Answers {X = Bool} (λ h. h) b (truth_in Bounded e st sc) n (Err w) → Answers u b (opened Bounded a c st sc k) n (Err w)
    fact_stops h = of_body c st sc k (t.Fact e at) same (stops_then if_fact h)

    pub fact_fails : {holds : Bool} {w : EvalStop} → Answers (λ h. h) b (truth_in Bounded e st sc) n (Ok holds) → ends [] (stopped w) ≡ assumed holds → Answers u b (opened Bounded a c st sc k) n (Err (halt.Stops w))
    fact_fails {holds = holds} {w = w} h refused =
        let no = assumed_fails holds w refused in
        of_body c st sc k (t.Fact e at) same (goes_then if_fact h (if_not _ _ _ no.0 (stops_with w (ap (λ w. ends [] (stopped w)) no.1))))

    pub fact_goes : {m : List Event} {holds : Bool} {x : ⊤} {r : Result Z EvalHalt} → Answers (λ h. h) b (truth_in Bounded e st sc) m (Ok holds) → is x ≡ assumed holds →
        Answers u m (then_with (unit_of c) (λ x. is st)) n r → Answers u b (opened Bounded a c st sc k) n r
    fact_goes {holds = holds} {x = x} h so i = of_body c st sc k (t.Fact e at) same (goes_then if_fact h (if_so holds _ _ (assumed_holds holds x so) i))

module _ (c : Content) (st : State) (sc : Scene) (k : Fraction) {a x : t.Assertion} {e : t.Expr} (same : a ≡ t.Implies e x) where
  abbrev if_implied : Bool → Evaluated State
  if_implied holds = if holds then opened Bounded x c st sc k else then_with (unit_of c) (λ x. is st)

  module _ {Z : Type 0} {u : Z → State} {b n : List Event} where
    pub implies_stops : {w : EvalHalt} → Answers {X = Bool} (λ h. h) b (truth_in Bounded e st sc) n (Err w) → Answers u b (opened Bounded a c st sc k) n (Err w)
    implies_stops h = of_body c st sc k (t.Implies e x) same (stops_then if_implied h)

    pub implies_so : {m : List Event} {holds : Bool} {r : Result Z EvalHalt} → Answers (λ h. h) b (truth_in Bounded e st sc) m (Ok holds) → holds ≡ true →
        Answers u m (opened Bounded x c st sc k) n r → Answers u b (opened Bounded a c st sc k) n r
    implies_so h so i = of_body c st sc k (t.Implies e x) same (goes_then if_implied h (if_so _ _ _ so i))

    pub implies_not : {m : List Event} {holds : Bool} {r : Result Z EvalHalt} → Answers (λ h. h) b (truth_in Bounded e st sc) m (Ok holds) → holds ≡ false →
        Answers u m (then_with (unit_of c) (λ x. is st)) n r → Answers u b (opened Bounded a c st sc k) n r
    implies_not h so i = of_body c st sc k (t.Implies e x) same (goes_then if_implied h (if_not _ _ _ so i))

module _ (c : Content) (st : State) (sc : Scene) (k : Fraction) {a x y : t.Assertion} {e : t.Expr} (same : a ≡ t.ChooseAssertion e x y) where
  abbrev if_chosen : Bool → Evaluated State
  if_chosen holds = if holds then opened Bounded x c st sc k else opened Bounded y c st sc k

  module _ {Z : Type 0} {u : Z → State} {b n : List Event} where
    pub choose_stops : {w : EvalHalt} → Answers {X = Bool} (λ h. h) b (truth_in Bounded e st sc) n (Err w) → Answers u b (opened Bounded a c st sc k) n (Err w)
    choose_stops h = of_body c st sc k (t.ChooseAssertion e x y) same (stops_then if_chosen h)

    pub choose_so : {m : List Event} {holds : Bool} {r : Result Z EvalHalt} → Answers (λ h. h) b (truth_in Bounded e st sc) m (Ok holds) → holds ≡ true →
        Answers u m (opened Bounded x c st sc k) n r → Answers u b (opened Bounded a c st sc k) n r
    choose_so h so i = of_body c st sc k (t.ChooseAssertion e x y) same (goes_then if_chosen h (if_so _ _ _ so i))

    pub choose_not : {m : List Event} {holds : Bool} {r : Result Z EvalHalt} → Answers (λ h. h) b (truth_in Bounded e st sc) m (Ok holds) → holds ≡ false →
        Answers u m (opened Bounded y c st sc k) n r → Answers u b (opened Bounded a c st sc k) n r
    choose_not h so i = of_body c st sc k (t.ChooseAssertion e x y) same (goes_then if_chosen h (if_not _ _ _ so i))

-- ---- places and instances

module _ (c : Content) (st : State) (sc : Scene) (k : Fraction) {a : t.Assertion} {e : t.Expr} {q : t.Amt} {field : ℕ} {at : Pos} (same : a ≡ t.Acc e field q at) where
  abbrev to_place : ℕ → Fraction → Evaluated State
  to_place r q = fill_place Bounded sc k field r q c at st

  abbrev to_receiver : ℕ → Evaluated State
  to_receiver r = then_with (amount_of Bounded q st sc) (to_place r)

  module _ {Z : Type 0} {u : Z → State} {b n : List Event} where
    pub receiver_stops : {w : EvalHalt} → Answers {X = ℕ} (λ r. r) b (ref_in Bounded e st sc) n (Err w) → Answers u b (opened Bounded a c st sc k) n (Err w)
    receiver_stops h = of_body c st sc k (t.Acc e field q at) same (stops_then to_receiver h)

    pub amount_stops : {m : List Event} {x : ℕ} {w : EvalHalt} → Answers (λ r. r) b (ref_in Bounded e st sc) m (Ok x) → Answers {X = Fraction} (λ q. q) m (amount_of Bounded q st sc) n (Err w) →
        Answers u b (opened Bounded a c st sc k) n (Err w)
    amount_stops {x = x} h i = of_body c st sc k (t.Acc e field q at) same (goes_then to_receiver h (stops_then (to_place x) i))

    pub place_goes : {m l : List Event} {x : ℕ} {f : Fraction} {r : Result Z EvalHalt} → Answers (λ r. r) b (ref_in Bounded e st sc) m (Ok x) → Answers (λ q. q) m (amount_of Bounded q st sc) l (Ok f) →
        Answers u l (fill_place Bounded sc k field x f c at st) n r → Answers u b (opened Bounded a c st sc k) n r
    place_goes {x = x} h i j = of_body c st sc k (t.Acc e field q at) same (goes_then to_receiver h (goes_then (to_place x) i j))

module _ (c : Content) (st : State) (sc : Scene) (k : Fraction) {a : t.Assertion} {p : ℕ} {args : t.Exprs} {q : t.Amt} {at : Pos} (same : a ≡ t.Inst p args q at) where
  abbrev to_instance : Key → Fraction → Evaluated State
  to_instance key q = fill_instance Bounded sc k p key q c at st

  abbrev to_key : Key → Evaluated State
  to_key key = then_with (amount_of Bounded q st sc) (to_instance key)

  module _ {Z : Type 0} {u : Z → State} {b n : List Event} where
    pub key_stops : {w : EvalHalt} → Answers {X = Key} (λ key. key) b (key_in Bounded args st sc) n (Err w) → Answers u b (opened Bounded a c st sc k) n (Err w)
    key_stops h = of_body c st sc k (t.Inst p args q at) same (stops_then to_key h)

    pub share_stops : {m : List Event} {key : Key} {w : EvalHalt} → Answers (λ key. key) b (key_in Bounded args st sc) m (Ok key) → Answers {X = Fraction} (λ q. q) m (amount_of Bounded q st sc) n (Err w) →
        Answers u b (opened Bounded a c st sc k) n (Err w)
    share_stops {key = key} h i = of_body c st sc k (t.Inst p args q at) same (goes_then to_key h (stops_then (to_instance key) i))

    pub instance_goes : {m l : List Event} {key : Key} {f : Fraction} {r : Result Z EvalHalt} → Answers (λ key. key) b (key_in Bounded args st sc) m (Ok key) → Answers (λ q. q) m (amount_of Bounded q st sc) l (Ok f) →
        Answers u l (fill_instance Bounded sc k p key f c at st) n r → Answers u b (opened Bounded a c st sc k) n r
    instance_goes {key = key} h i j = of_body c st sc k (t.Inst p args q at) same (goes_then to_key h (goes_then (to_instance key) i j))

-- ---- conjunctions

module _ {Y : Type 0} (view : Y → Content × Content) (c : Content) (st : State) (sc : Scene) (k : Fraction) {a x y : t.Assertion} (same : a ≡ t.And x y) where
  abbrev sides : (Content × Content) → Evaluated State
  sides parts = then_with (opened Bounded x parts.0 st sc k) (λ s. opened Bounded y parts.1 s sc k)

  module _ {Z : Type 0} {u : Z → State} {b n : List Event} where
    pub pair_stops : {w : EvalHalt} → Answers view b (pair_of c) n (Err w) → Answers u b (opened Bounded a c st sc k) n (Err w)
    pair_stops h = of_body c st sc k (t.And x y) same (stops_then sides h)

    pub first_stops : {m : List Event} {z : Y} {W : Type 0} {after : W → State} {w : EvalHalt} → Answers view b (pair_of c) m (Ok z) → Answers after m (opened Bounded x (view z).0 st sc k) n (Err w) →
        Answers u b (opened Bounded a c st sc k) n (Err w)
    first_stops {z = z} h i = of_body c st sc k (t.And x y) same (goes_then sides h (stops_then (λ s. opened Bounded y (view z).1 s sc k) i))

    pub both_go : {m l : List Event} {z : Y} {W : Type 0} {after : W → State} {s : W} {r : Result Z EvalHalt} → Answers view b (pair_of c) m (Ok z) → Answers after m (opened Bounded x (view z).0 st sc k) l (Ok s) →
        Answers u l (opened Bounded y (view z).1 (after s) sc k) n r → Answers u b (opened Bounded a c st sc k) n r
    both_go {z = z} h i j = of_body c st sc k (t.And x y) same (goes_then sides h (goes_then (λ s. opened Bounded y (view z).1 s sc k) i j))
