-- A run from what fits the program goes to what fits it.
use Rattle.std.proofs.Common.{◌≡◌, inl, ℕ, not, Some, List, [], ◌∷◌, IfSome, slice_get}
use Rattle.std.proofs.lemmas.List.Elements.{All-nil, All-cons}
use Rattle.std.specs.Ordering.{is_lt}
use Rattle.std.specs.Prelude.{⊤}
use Rattle.lemmas.proofs.Options.{if_there}
use Rattle.vb_base.specs.declared.labels.Kind.TheVariants as kind
use Rattle.vb_base.specs.declared.places.Pos.{Pos}
use Rattle.vb_value.specs.Bound.{Bound}
use Rattle.vb_value.specs.Fraction.{Fraction, IsReduced, is_negative, is_positive, is_none, product, difference, order, fits_product, fits_difference, fits_order}
use Rattle.vb_value.specs.Layout.{Layout}
use Rattle.vb_value.specs.declared.values.Ty.{Ty}
use Rattle.vb_value.specs.declared.values.Ty.TheVariants as ty
use Rattle.vb_value.proofs.ProperLaws.{IsReduced-difference, IsReduced-product}
use Rattle.viper_core.specs.Expr as t
use Rattle.viper_core.specs.Formed.{IsFormed}
use Rattle.viper_core.specs.Program.{Predicate}
use Rattle.viper_core.specs.Typing.{Context, HasType, HaveTypes, IsAmount, amount as exact, IsAssertion, fact, access, instance, both, implied, chosen}
use Rattle.viper_state.specs.Choice as choice
use Rattle.viper_state.specs.Choice.{Choice}
use Rattle.viper_state.specs.Event as event
use Rattle.viper_state.specs.Fits.{FitsKey, FitsState, FitsScene, FitsChoice, FitsEvent}
use Rattle.viper_state.specs.State.{State}
use Rattle.viper_state.specs.Run.{Scene}
use Rattle.viper_state.proofs.FitsLaws.{with_mask_fits, with_amount_fits, mask_found, amount_found}
use Rattle.viper_meaning.specs.Ends.{Evaluated}
use Rattle.viper_meaning.specs.Kept.{IsAny, Keeps}
use Rattle.viper_meaning.specs.KeptRuns.{KeepsRun, at_end}
use Rattle.viper_meaning.specs.Places.{key_of}
use Rattle.viper_meaning.specs.Resource.{Resource, Place, Instance, held_at, with_held, is_null, is_too_much}
use Rattle.viper_meaning.specs.Run.{Run, amount_in, taking_amount}
use Rattle.viper_meaning.specs.Assertions.{place_in, instance_in, more_held, given_to, some_given_to, produce_amount, produce, rest_of, taken_from, something_held, some_taken_from, consume_amount, consume}
use Rattle.viper_meaning.specs.Value.{truth_in, perm_in}
use Rattle.viper_meaning.proofs.KeptLaws.{is_kept, fails_kept, blocks_kept, then_kept, found_kept, unless_kept, if_kept, fitting_kept}
use Rattle.viper_meaning.proofs.RunKeptLaws.{before_kept, evaluating_kept, then_do_kept, taking_kept, if_run_kept}
use Rattle.viper_meaning.proofs.TypedLaws.{keeps, truth_typed, perm_typed, ref_typed, added_typed, key_fits, keys_at, value_typed, values_typed}

-- what a layout has
abbrev pub ResourceFits : Layout → Resource → Type 0
ResourceFits l (Place f r) = (u : Ty) × (slice_get l.fields f ≡ Some u)
ResourceFits l (Instance p key) = (us : List Ty) × ((slice_get l.keys p ≡ Some us) × FitsKey us key)

-- ---- what is held

module _ (b : Bound) (l : Layout) where
  abbrev Fitting : {X : Type 0} → (X → Type 0) → Evaluated X → Type 0
  Fitting P e = Keeps (FitsEvent l) P e

  abbrev RunFits : Run State → Type 0
  RunFits r = KeepsRun (FitsEvent l) (FitsChoice l) (FitsState l) r

  held_fits : {s : State} → FitsState l s → (x : Resource) → ResourceFits l x → IfSome (held_at s x) IsReduced
  held_fits {s} h (Place f r) i = if_there (held_at s (Place f r)) (mask_found h f r i.0 i.1)
  held_fits {s} h (Instance p key) i = if_there (held_at s (Instance p key)) (amount_found h p key i.0 i.1.0)

  with_held_fits : {s : State} → FitsState l s → (x : Resource) (q : Fraction) → ResourceFits l x → IsReduced q → FitsState l (with_held s x q)
  with_held_fits h (Place f r) q i j = with_mask_fits h f r q j
  with_held_fits h (Instance p key) q i j = with_amount_fits h p i.0 key q i.1.0 i.1.1 j

  -- an amount that was chosen
  taking_amount_fits : {go : Fraction → Run State} → ((q : Fraction) → IsReduced q → RunFits (go q)) → RunFits (taking_amount go)
  taking_amount_fits g = taking_kept amount_in chosen_fits (λ q i. before_kept (event.Wild q ∷ []) (All-cons (FitsEvent l) (event.Wild q) [] i (All-nil (FitsEvent l))) (g q i))
    where
      chosen_fits : (c : Choice) → FitsChoice l c → IfSome (amount_in c) IsReduced
      chosen_fits (choice.Amount q) h = h
      chosen_fits _ h = tt

  more_held_fits : (k : Fraction) (x : Resource) (at : Pos) (s : State) (q : Fraction) → IsReduced k → IsReduced q → ResourceFits l x → FitsState l s → Fitting (FitsState l) (more_held b k x at s q)
  more_held_fits k x at s q i j o h =
      unless_kept (is_null x) blocks_kept (then_kept (found_kept (held_at s x) (held_fits h x o)) (λ held n. then_kept (keeps (added_typed l {B = ⊤} b held k q at n i j)) (λ all a.
      unless_kept (is_too_much x all) blocks_kept (is_kept (with_held_fits h x all o a)))))

  given_to_fits : (sc : Scene) (k : Fraction) (x : Resource) (at : Pos) (s : State) (q : Fraction) → IsReduced k → IsReduced q → ResourceFits l x → FitsState l s → Fitting (FitsState l) (given_to b sc k x at s q)
  given_to_fits sc k x at s q i j o h = unless_kept (is_negative q) (fails_kept sc at kind.Negative) (if_kept (is_none q) (is_kept h) (more_held_fits k x at s q i j o h))

  some_given_fits : (k : Fraction) (x : Resource) (at : Pos) (s : State) (q : Fraction) → IsReduced k → IsReduced q → ResourceFits l x → FitsState l s → Fitting (FitsState l) (some_given_to b k x at s q)
  some_given_fits k x at s q i j o h = unless_kept (not (is_positive q)) blocks_kept (more_held_fits k x at s q i j o h)

  rest_fits : (sc : Scene) (at : Pos) (held q : Fraction) → IsReduced held → IsReduced q → Fitting IsReduced (rest_of b sc at held q)
  rest_fits sc at held q i j =
      then_kept (fitting_kept {P = IsAny} b (fits_order held q) at (is_lt (order held q)) (λ fits. tt)) (λ less u. unless_kept less (fails_kept sc at kind.Perm) (
      fitting_kept {P = IsReduced} b (fits_difference held q) at (difference held q) (λ fits. IsReduced-difference held q i j)))

  taken_from_fits : (sc : Scene) (k : Fraction) (x : Resource) (at : Pos) (left : State) (q : Fraction) → IsReduced k → IsReduced q → ResourceFits l x → FitsState l left →
      Fitting (FitsState l) (taken_from b sc k x at left q)
  taken_from_fits sc k x at left q i j o h =
      unless_kept (is_negative q) (fails_kept sc at kind.Negative) (then_kept (found_kept (held_at left x) (held_fits h x o)) (λ held n.
      then_kept (fitting_kept {P = IsReduced} b (fits_product k q) at (product k q) (λ fits. IsReduced-product k q i j)) (λ some p.
      then_kept (rest_fits sc at held some n p) (λ rest r. is_kept (with_held_fits h x rest o r)))))

  something_fits : (sc : Scene) (x : Resource) (at : Pos) (left : State) → ResourceFits l x → FitsState l left → Fitting IsReduced (something_held sc x at left)
  something_fits sc x at left o h = then_kept (found_kept (held_at left x) (held_fits h x o)) (λ held n. unless_kept (is_none held) (fails_kept sc at kind.Perm) (is_kept n))

  some_taken_fits : (x : Resource) (at : Pos) (left : State) (held q : Fraction) → IsReduced held → IsReduced q → ResourceFits l x → FitsState l left → Fitting (FitsState l) (some_taken_from b x at left held q)
  some_taken_fits x at left held q i j o h =
      unless_kept (not (is_positive q)) blocks_kept (then_kept (fitting_kept {P = IsAny} b (fits_order q held) at (is_lt (order q held)) (λ fits. tt)) (λ less u.
      unless_kept (not less) blocks_kept (then_kept (fitting_kept {P = IsReduced} b (fits_difference held q) at (difference held q) (λ fits. IsReduced-difference held q i j)) (λ rest r.
      is_kept (with_held_fits h x rest o r)))))

-- ---- producing and consuming

module _ (b : Bound) (c : Context) (formed : IsFormed c.program) where
  abbrev HasFit : {X : Type 0} → (X → Type 0) → Evaluated X → Type 0
  HasFit P e = Keeps (FitsEvent c.program.layout) P e

  abbrev StateFits : State → Type 0
  StateFits s = FitsState c.program.layout s

  abbrev SceneFits : Scene → Type 0
  SceneFits sc = FitsScene c.program.layout c.vars sc

  abbrev RunGoes : Run State → Type 0
  RunGoes r = KeepsRun (FitsEvent c.program.layout) (FitsChoice c.program.layout) (FitsState c.program.layout) r

  pub truth_fits : (e : t.Expr) (s : State) (sc : Scene) → HasType c e ty.Bool → StateFits s → SceneFits sc → HasFit IsAny (truth_in b e s sc)
  truth_fits e s sc i h g = keeps (truth_typed (value_typed b {B = ⊤} c formed e ty.Bool s sc i (inl tt) h g))

  pub perm_fits : (e : t.Expr) (s : State) (sc : Scene) → HasType c e ty.Perm → StateFits s → SceneFits sc → HasFit IsReduced (perm_in b e s sc)
  perm_fits e s sc i h g = keeps (perm_typed (value_typed b {B = ⊤} c formed e ty.Perm s sc i (inl tt) h g))

  pub place_fits : (e : t.Expr) (f : ℕ) (u : Ty) (s : State) (sc : Scene) → HasType c e ty.Ref → slice_get c.program.layout.fields f ≡ Some u → StateFits s → SceneFits sc →
      HasFit (ResourceFits c.program.layout) (place_in b e f s sc)
  place_fits e f u s sc i there h g = then_kept (keeps (ref_typed (value_typed b {B = ⊤} c formed e ty.Ref s sc i (inl tt) h g))) (λ r o. is_kept (u, there))

  pub instance_fits : (p : ℕ) (d : Predicate) (args : t.Exprs) (s : State) (sc : Scene) → slice_get c.program.predicates p ≡ Some d → HaveTypes c args d.params → StateFits s → SceneFits sc →
      HasFit (ResourceFits c.program.layout) (instance_in b p args s sc)
  instance_fits p d args s sc there i h g =
      then_kept (then_kept (keeps (values_typed b {B = ⊤} c formed args d.params s sc i tt h g)) (λ vs v. found_kept (key_of vs) (key_fits d.params vs v))) (λ key k. is_kept (d.params, (keys_at c formed p d there, k)))

  produce_amount_fits : (m : t.Amt) (sc : Scene) (k : Fraction) (at : Pos) (s : State) (x : Resource) → IsAmount c m → StateFits s → SceneFits sc → IsReduced k → ResourceFits c.program.layout x →
      RunGoes (produce_amount b m sc k at s x)
  produce_amount_fits (t.Is e) sc k at s x (exact i) h g o l = at_end (then_kept (perm_fits e s sc i h g) (λ q j. given_to_fits b c.program.layout sc k x at s q o j l h))
  produce_amount_fits t.Wildcard sc k at s x i h g o l = taking_amount_fits b c.program.layout (λ q j. at_end (some_given_fits b c.program.layout k x at s q o j l h))

  pub produce_fits : (a : t.Assertion) (sc : Scene) (k : Fraction) (s : State) → IsAssertion c a → StateFits s → SceneFits sc → IsReduced k → RunGoes (produce b a sc k s)
  produce_fits (t.Fact e at) sc k s (fact i) h g o = at_end (then_kept (truth_fits e s sc i h g) (λ holds u. if_kept holds (is_kept h) blocks_kept))
  produce_fits (t.Acc e f m at) sc k s (access {u = u} i there j) h g o = evaluating_kept (place_fits e f u s sc i there h g) (λ x l. produce_amount_fits m sc k at s x j h g o l)
  produce_fits (t.Inst p args m at) sc k s (instance d there i j) h g o = evaluating_kept (instance_fits p d args s sc there i h g) (λ x l. produce_amount_fits m sc k at s x j h g o l)
  produce_fits (t.And x y) sc k s (both i j) h g o = then_do_kept (produce_fits x sc k s i h g o) (λ u w. produce_fits y sc k u j w g o)
  produce_fits (t.Implies e x) sc k s (implied i j) h g o = evaluating_kept (truth_fits e s sc i h g) (λ holds u. if_run_kept holds (produce_fits x sc k s j h g o) (at_end (is_kept h)))
  produce_fits (t.ChooseAssertion e x y) sc k s (chosen i j n) h g o =
      evaluating_kept (truth_fits e s sc i h g) (λ holds u. if_run_kept holds (produce_fits x sc k s j h g o) (produce_fits y sc k s n h g o))

  consume_amount_fits : (m : t.Amt) (start : State) (sc : Scene) (k : Fraction) (at : Pos) (left : State) (x : Resource) → IsAmount c m → StateFits start → StateFits left → SceneFits sc → IsReduced k →
      ResourceFits c.program.layout x → RunGoes (consume_amount b m start sc k at left x)
  consume_amount_fits (t.Is e) start sc k at left x (exact i) f h g o l = at_end (then_kept (perm_fits e start sc i f g) (λ q j. taken_from_fits b c.program.layout sc k x at left q o j l h))
  consume_amount_fits t.Wildcard start sc k at left x i f h g o l =
      evaluating_kept (something_fits b c.program.layout sc x at left l h) (λ held n. taking_amount_fits b c.program.layout (λ q j. at_end (some_taken_fits b c.program.layout x at left held q n j l h)))

  pub consume_fits : (a : t.Assertion) (start : State) (sc : Scene) (k : Fraction) (left : State) → IsAssertion c a → StateFits start → StateFits left → SceneFits sc → IsReduced k → RunGoes (consume b a start sc k left)
  consume_fits (t.Fact e at) start sc k left (fact i) f h g o = at_end (then_kept (truth_fits e start sc i f g) (λ holds u. if_kept holds (is_kept h) (fails_kept sc at kind.Fact)))
  consume_fits (t.Acc e n m at) start sc k left (access {u = u} i there j) f h g o = evaluating_kept (place_fits e n u start sc i there f g) (λ x l. consume_amount_fits m start sc k at left x j f h g o l)
  consume_fits (t.Inst p args m at) start sc k left (instance d there i j) f h g o = evaluating_kept (instance_fits p d args start sc there i f g) (λ x l. consume_amount_fits m start sc k at left x j f h g o l)
  consume_fits (t.And x y) start sc k left (both i j) f h g o = then_do_kept (consume_fits x start sc k left i f h g o) (λ u w. consume_fits y start sc k u j f w g o)
  consume_fits (t.Implies e x) start sc k left (implied i j) f h g o = evaluating_kept (truth_fits e start sc i f g) (λ holds u. if_run_kept holds (consume_fits x start sc k left j f h g o) (at_end (is_kept h)))
  consume_fits (t.ChooseAssertion e x y) start sc k left (chosen i j n) f h g o =
      evaluating_kept (truth_fits e start sc i f g) (λ holds u. if_run_kept holds (consume_fits x start sc k left j f h g o) (consume_fits y start sc k left n f h g o))
