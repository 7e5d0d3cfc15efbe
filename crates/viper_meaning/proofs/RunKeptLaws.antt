-- What operations keep is kept by producing and consuming, in states and events.
use Rattle.std.proofs.Common.{ℕ, Bool, true, false, not, Option, Some, None, List, [], ◌∷◌, All, IfSome, if◌then◌else◌}
use Rattle.std.specs.Prelude.{⊤}
use Rattle.std.proofs.lemmas.List.Elements.{All-nil, All-cons, All-append}
use Rattle.std.specs.Ordering.{is_lt}
use Rattle.vb_base.specs.declared.labels.Kind.TheVariants as kind
use Rattle.vb_base.specs.declared.places.Pos.{Pos}
use Rattle.vb_value.specs.Bound.{Bound}
use Rattle.vb_value.specs.Content.{Content}
use Rattle.vb_value.specs.Fraction.{Fraction, is_negative, is_positive, is_none, product, difference, order, fits_product, fits_difference, fits_order}
use Rattle.vb_value.specs.declared.values.Value.{Value}
use Rattle.viper_core.specs.Expr as t
use Rattle.viper_core.specs.Literals.{AllLiterals, AllExprsLiterals, AllAmountLiterals, AllAssertionLiterals}
use Rattle.viper_state.specs.Choice as choice
use Rattle.viper_state.specs.Choice.{Choice}
use Rattle.viper_state.specs.Event as event
use Rattle.viper_state.specs.Event.{Event}
use Rattle.viper_state.specs.State.{State, Key}
use Rattle.viper_state.specs.Run.{Scene}
use Rattle.viper_state.specs.Within.{AllOfChoice, AllOfEvent, AllOfState, AllOfScene}
use Rattle.viper_state.proofs.EachLaws.{mask_has, amount_has, with_mask_has, with_amount_has}
use Rattle.viper_meaning.specs.Ends.{Evaluated}
use Rattle.viper_meaning.specs.Kept as kept
use Rattle.viper_meaning.specs.Kept.{IsAny, Keeps}
use Rattle.viper_meaning.specs.KeptRuns.{KeepsRun, at_end, later}
use Rattle.viper_meaning.specs.Resource.{Resource, Place, Instance, held_at, with_held, is_null, is_too_much}
use Rattle.viper_meaning.specs.Run.{Run, before, evaluating, then_do, given, taking, amount_in, taking_amount}
use Rattle.viper_meaning.specs.Assertions.{place_in, instance_in, more_held, given_to, some_given_to, produce_amount, produce, rest_of, taken_from, something_held, some_taken_from, consume_amount, consume}
use Rattle.viper_meaning.specs.Value.{truth_in, perm_in}
use Rattle.viper_meaning.proofs.ClosedLaws.{IsClosed}
use Rattle.viper_meaning.proofs.KeptLaws as k
use Rattle.viper_meaning.proofs.KeptLaws.{IsInt, is_kept, fails_kept, blocks_kept, after_kept, then_kept, found_kept, unless_kept, if_kept, fitting_kept}

-- one lemma for each way to go on
module _ {E : Event → Type 0} {C : Choice → Type 0} where
  pub before_kept : {X : Type 0} {P : X → Type 0} (es : List Event) {r : Run X} → All E es → KeepsRun E C P r → KeepsRun E C P (before es r)
  before_kept es h (at_end g) = at_end (after_kept es h g)
  before_kept es h (later f g) = later (All-append E es _ h f) g

  pub evaluating_kept : {X Y : Type 0} {P : X → Type 0} {Q : Y → Type 0} {e : Evaluated X} {go : X → Run Y} → Keeps E P e → ((x : X) → P x → KeepsRun E C Q (go x)) → KeepsRun E C Q (evaluating e go)
  evaluating_kept (kept.value h p) g = before_kept _ h (g _ p)
  evaluating_kept (kept.failure h) g = at_end (kept.failure h)
  evaluating_kept (kept.blocked h) g = at_end (kept.blocked h)
  evaluating_kept (kept.over h) g = at_end (kept.over h)

  pub then_do_kept : {X Y : Type 0} {P : X → Type 0} {Q : Y → Type 0} {r : Run X} {go : X → Run Y} → KeepsRun E C P r → ((x : X) → P x → KeepsRun E C Q (go x)) → KeepsRun E C Q (then_do r go)
  then_do_kept (at_end h) g = evaluating_kept h g
  then_do_kept (later h f) g = later h (λ c p. then_do_kept (f c p) g)

  pub given_kept : {K X : Type 0} {Q : K → Type 0} {P : X → Type 0} (o : Option K) {go : K → Run X} → IfSome o Q → ((x : K) → Q x → KeepsRun E C P (go x)) → KeepsRun E C P (given o go)
  given_kept (Some x) q g = g x q
  given_kept None q g = at_end blocks_kept

  pub taking_kept : {K X : Type 0} {Q : K → Type 0} {P : X → Type 0} (kind : Choice → Option K) {go : K → Run X} → ((c : Choice) → C c → IfSome (kind c) Q) → ((x : K) → Q x → KeepsRun E C P (go x)) →
      KeepsRun E C P (taking kind go)
  taking_kept kind of g = later (All-nil E) (λ c p. given_kept (kind c) (of c p) g)

  pub if_run_kept : {X : Type 0} {P : X → Type 0} (b : Bool) {r u : Run X} → KeepsRun E C P r → KeepsRun E C P u → KeepsRun E C P (if b then r else u)
  if_run_kept true h g = h
  if_run_kept false h g = g

-- ---- producing and consuming

-- the arguments of an instance have this property
abbrev pub ResourceHas : (Key → Type 0) → Resource → Type 0
ResourceHas K (Place f r) = ⊤
ResourceHas K (Instance p key) = K key

module _ (b : Bound) (F S : Fraction → Type 0) (V : Value → Type 0) (K : Key → Type 0) (C : Content → Type 0) (closed : IsClosed b F S V K C) where
  abbrev HasKept : {X : Type 0} → (X → Type 0) → Evaluated X → Type 0
  HasKept P e = Keeps (AllOfEvent F V K C) P e

  abbrev RunKept : {X : Type 0} → (X → Type 0) → Run X → Type 0
  RunKept P r = KeepsRun (AllOfEvent F V K C) (AllOfChoice F V K C) P r

  pub held_has : {s : State} → AllOfState F V K C s → (x : Resource) → IfSome (held_at s x) F
  held_has h (Place f r) = mask_has h f r
  held_has h (Instance p key) = amount_has h p key

  with_held_has : {s : State} → AllOfState F V K C s → (x : Resource) (q : Fraction) → ResourceHas K x → F q → AllOfState F V K C (with_held s x q)
  with_held_has h (Place f r) q i j = with_mask_has h f r q j
  with_held_has h (Instance p key) q i j = with_amount_has h p key q i j

  pub place_kept : (e : t.Expr) (f : ℕ) (s : State) (sc : Scene) → AllLiterals (IsInt V) F e → AllOfState F V K C s → AllOfScene F V K C sc → HasKept (ResourceHas K) (place_in b e f s sc)
  place_kept e f s sc w h g = then_kept (k.ref_kept b F S V K C closed (k.value_kept b F S V K C closed e s sc w h g)) (λ r u. is_kept tt)

  pub instance_kept : (p : ℕ) (args : t.Exprs) (s : State) (sc : Scene) → AllExprsLiterals (IsInt V) F args → AllOfState F V K C s → AllOfScene F V K C sc → HasKept (ResourceHas K) (instance_in b p args s sc)
  instance_kept p args s sc w h g = then_kept (k.key_kept b F S V K C closed (k.values_kept b F S V K C closed args s sc w h g)) (λ key i. is_kept i)

  pub truth_in_kept : (e : t.Expr) (s : State) (sc : Scene) → AllLiterals (IsInt V) F e → AllOfState F V K C s → AllOfScene F V K C sc → HasKept IsAny (truth_in b e s sc)
  truth_in_kept e s sc w h g = k.truth_kept b F S V K C closed (k.value_kept b F S V K C closed e s sc w h g)

  pub perm_in_kept : (e : t.Expr) (s : State) (sc : Scene) → AllLiterals (IsInt V) F e → AllOfState F V K C s → AllOfScene F V K C sc → HasKept F (perm_in b e s sc)
  perm_in_kept e s sc w h g = k.perm_kept b F S V K C closed (k.value_kept b F S V K C closed e s sc w h g)

  -- an amount that was chosen
  taking_amount_kept : {X : Type 0} {P : X → Type 0} {go : Fraction → Run X} → ((q : Fraction) → F q → RunKept P (go q)) → RunKept P (taking_amount go)
  taking_amount_kept g = taking_kept amount_in chosen (λ q i. before_kept (event.Wild q ∷ []) (All-cons (AllOfEvent F V K C) (event.Wild q) [] i (All-nil (AllOfEvent F V K C))) (g q i))
    where
      chosen : (c : Choice) → AllOfChoice F V K C c → IfSome (amount_in c) F
      chosen (choice.Amount q) h = h
      chosen _ h = tt

  more_held_kept : (scale : Fraction) (x : Resource) (at : Pos) (s : State) (q : Fraction) → S scale → S q → ResourceHas K x → AllOfState F V K C s → HasKept (AllOfState F V K C) (more_held b scale x at s q)
  more_held_kept scale x at s q i j l h =
      unless_kept (is_null x) blocks_kept (then_kept (found_kept (held_at s x) (held_has h x)) (λ held n. then_kept (k.added_kept b F S V K C closed held scale q at n i j) (λ all a.
      unless_kept (is_too_much x all) blocks_kept (is_kept (with_held_has h x all l a)))))

  given_to_kept : (sc : Scene) (scale : Fraction) (x : Resource) (at : Pos) (s : State) (q : Fraction) → S scale → S q → ResourceHas K x → AllOfState F V K C s →
      HasKept (AllOfState F V K C) (given_to b sc scale x at s q)
  given_to_kept sc scale x at s q i j l h = unless_kept (is_negative q) (fails_kept sc at kind.Negative) (if_kept (is_none q) (is_kept h) (more_held_kept scale x at s q i j l h))

  some_given_kept : (scale : Fraction) (x : Resource) (at : Pos) (s : State) (q : Fraction) → S scale → S q → ResourceHas K x → AllOfState F V K C s → HasKept (AllOfState F V K C) (some_given_to b scale x at s q)
  some_given_kept scale x at s q i j l h = unless_kept (not (is_positive q)) blocks_kept (more_held_kept scale x at s q i j l h)

  rest_kept : (sc : Scene) (at : Pos) (held q : Fraction) → S held → S q → HasKept F (rest_of b sc at held q)
  rest_kept sc at held q i j =
      then_kept (fitting_kept {P = IsAny} b (fits_order held q) at (is_lt (order held q)) (λ fits. tt)) (λ less u. unless_kept less (fails_kept sc at kind.Perm) (
      fitting_kept {P = F} b (fits_difference held q) at (difference held q) (closed.difference held q i j)))

  taken_from_kept : (sc : Scene) (scale : Fraction) (x : Resource) (at : Pos) (left : State) (q : Fraction) → S scale → S q → ResourceHas K x → AllOfState F V K C left →
      HasKept (AllOfState F V K C) (taken_from b sc scale x at left q)
  taken_from_kept sc scale x at left q i j l h =
      unless_kept (is_negative q) (fails_kept sc at kind.Negative) (then_kept (found_kept (held_at left x) (held_has h x)) (λ held n.
      then_kept (fitting_kept {P = F} b (fits_product scale q) at (product scale q) (closed.product scale q i j)) (λ some o.
      then_kept (rest_kept sc at held some (closed.asked held n) (closed.asked some o)) (λ rest r. is_kept (with_held_has h x rest l r)))))

  something_kept : (sc : Scene) (x : Resource) (at : Pos) (left : State) → AllOfState F V K C left → HasKept F (something_held sc x at left)
  something_kept sc x at left h = then_kept (found_kept (held_at left x) (held_has h x)) (λ held n. unless_kept (is_none held) (fails_kept sc at kind.Perm) (is_kept n))

  some_taken_kept : (x : Resource) (at : Pos) (left : State) (held q : Fraction) → F held → F q → ResourceHas K x → AllOfState F V K C left → HasKept (AllOfState F V K C) (some_taken_from b x at left held q)
  some_taken_kept x at left held q i j l h =
      unless_kept (not (is_positive q)) blocks_kept (then_kept (fitting_kept {P = IsAny} b (fits_order q held) at (is_lt (order q held)) (λ fits. tt)) (λ less u.
      unless_kept (not less) blocks_kept (then_kept (fitting_kept {P = F} b (fits_difference held q) at (difference held q) (closed.difference held q (closed.asked held i) (closed.asked q j))) (λ rest r.
      is_kept (with_held_has h x rest l r)))))

  produce_amount_kept : (a : t.Amt) (sc : Scene) (scale : Fraction) (at : Pos) (s : State) (x : Resource) → AllAmountLiterals (IsInt V) F a → AllOfState F V K C s → AllOfScene F V K C sc → S scale →
      ResourceHas K x → RunKept (AllOfState F V K C) (produce_amount b a sc scale at s x)
  produce_amount_kept (t.Is e) sc scale at s x w h g i l = at_end (then_kept (perm_in_kept e s sc w h g) (λ q j. given_to_kept sc scale x at s q i (closed.asked q j) l h))
  produce_amount_kept t.Wildcard sc scale at s x w h g i l = taking_amount_kept (λ q j. at_end (some_given_kept scale x at s q i (closed.asked q j) l h))

  pub produce_kept : (a : t.Assertion) (sc : Scene) (scale : Fraction) (s : State) → AllAssertionLiterals (IsInt V) F a → AllOfState F V K C s → AllOfScene F V K C sc → S scale →
      RunKept (AllOfState F V K C) (produce b a sc scale s)
  produce_kept (t.Fact e at) sc scale s w h g i = at_end (then_kept (truth_in_kept e s sc w h g) (λ holds u. if_kept holds (is_kept h) blocks_kept))
  produce_kept (t.Acc e f a at) sc scale s w h g i = evaluating_kept (place_kept e f s sc w.0 h g) (λ x l. produce_amount_kept a sc scale at s x w.1 h g i l)
  produce_kept (t.Inst p args a at) sc scale s w h g i = evaluating_kept (instance_kept p args s sc w.0 h g) (λ x l. produce_amount_kept a sc scale at s x w.1 h g i l)
  produce_kept (t.And x y) sc scale s w h g i = then_do_kept (produce_kept x sc scale s w.0 h g i) (λ u j. produce_kept y sc scale u w.1 j g i)
  produce_kept (t.Implies e x) sc scale s w h g i = evaluating_kept (truth_in_kept e s sc w.0 h g) (λ holds u. if_run_kept holds (produce_kept x sc scale s w.1 h g i) (at_end (is_kept h)))
  produce_kept (t.ChooseAssertion e x y) sc scale s w h g i =
      evaluating_kept (truth_in_kept e s sc w.0 h g) (λ holds u. if_run_kept holds (produce_kept x sc scale s w.1 h g i) (produce_kept y sc scale s w.2 h g i))

  consume_amount_kept : (a : t.Amt) (start : State) (sc : Scene) (scale : Fraction) (at : Pos) (left : State) (x : Resource) → AllAmountLiterals (IsInt V) F a → AllOfState F V K C start →
      AllOfState F V K C left → AllOfScene F V K C sc → S scale → ResourceHas K x → RunKept (AllOfState F V K C) (consume_amount b a start sc scale at left x)
  consume_amount_kept (t.Is e) start sc scale at left x w f h g i l = at_end (then_kept (perm_in_kept e start sc w f g) (λ q j. taken_from_kept sc scale x at left q i (closed.asked q j) l h))
  consume_amount_kept t.Wildcard start sc scale at left x w f h g i l =
      evaluating_kept (something_kept sc x at left h) (λ held n. taking_amount_kept (λ q j. at_end (some_taken_kept x at left held q n j l h)))

  pub consume_kept : (a : t.Assertion) (start : State) (sc : Scene) (scale : Fraction) (left : State) → AllAssertionLiterals (IsInt V) F a → AllOfState F V K C start → AllOfState F V K C left →
      AllOfScene F V K C sc → S scale → RunKept (AllOfState F V K C) (consume b a start sc scale left)
  consume_kept (t.Fact e at) start sc scale left w f h g i = at_end (then_kept (truth_in_kept e start sc w f g) (λ holds u. if_kept holds (is_kept h) (fails_kept sc at kind.Fact)))
  consume_kept (t.Acc e n a at) start sc scale left w f h g i = evaluating_kept (place_kept e n start sc w.0 f g) (λ x l. consume_amount_kept a start sc scale at left x w.1 f h g i l)
  consume_kept (t.Inst p args a at) start sc scale left w f h g i = evaluating_kept (instance_kept p args start sc w.0 f g) (λ x l. consume_amount_kept a start sc scale at left x w.1 f h g i l)
  consume_kept (t.And x y) start sc scale left w f h g i = then_do_kept (consume_kept x start sc scale left w.0 f h g i) (λ u j. consume_kept y start sc scale u w.1 f j g i)
  consume_kept (t.Implies e x) start sc scale left w f h g i =
      evaluating_kept (truth_in_kept e start sc w.0 f g) (λ holds u. if_run_kept holds (consume_kept x start sc scale left w.1 f h g i) (at_end (is_kept h)))
  consume_kept (t.ChooseAssertion e x y) start sc scale left w f h g i =
      evaluating_kept (truth_in_kept e start sc w.0 f g) (λ holds u. if_run_kept holds (consume_kept x start sc scale left w.1 f h g i) (consume_kept y start sc scale left w.2 f h g i))
