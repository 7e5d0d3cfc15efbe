-- No run makes a permission negative.
use Rattle.std.proofs.Common.{◌≡◌, refl, sym, ap, ◌∙◌, Bool, true, false, not, [], ◌∷◌, IfSome}
use Rattle.std.proofs.lemmas.Bool.{true≢false}
use Rattle.std.specs.Ordering.{is_lt, ordering_reverse}
use Rattle.std.specs.declared.cmp.Ordering.{Ordering}
use Rattle.std.specs.declared.cmp.Ordering.TheVariants.{Less, Equal, Greater}
use Rattle.viper_meaning.proofs.ClosedLaws.{any_found}
use Rattle.vb_base.specs.declared.labels.Kind.TheVariants as kind
use Rattle.vb_base.specs.declared.places.Pos.{Pos}
use Rattle.vb_value.specs.Bound.{Bound}
use Rattle.vb_value.specs.Fraction.{Fraction, is_negative, is_positive, is_none, difference, order, fits_difference, fits_order}
use Rattle.vb_value.specs.Layout.{Layout}
use Rattle.vb_value.proofs.OrderLaws.{order_antisymm}
use Rattle.vb_value.proofs.SignLaws.{difference_not_negative, positive_not_negative}
use Rattle.viper_core.specs.Expr as t
use Rattle.viper_state.specs.Event as event
use Rattle.viper_state.specs.State.{State}
use Rattle.viper_state.specs.Run.{Scene}
use Rattle.viper_state.specs.Within.{IsNotNegative, IsNonnegative}
use Rattle.viper_state.proofs.EachLaws.{mask_not_negative, amount_not_negative, with_mask_nonnegative, with_amount_nonnegative}
use Rattle.viper_meaning.specs.Ends.{Evaluated, found, unless}
use Rattle.viper_meaning.specs.Kept.{IsAny, Keeps}
use Rattle.viper_meaning.specs.KeptRuns.{KeepsRun, at_end}
use Rattle.viper_meaning.specs.Resource.{Resource, Place, Instance, held_at, with_held, is_null, is_too_much}
use Rattle.viper_meaning.specs.Run.{Run, taking_amount, amount_in, evaluating}
use Rattle.viper_meaning.specs.Assertions.{place_in, instance_in, more_held, given_to, some_given_to, produce_amount, produce, rest_of, taken_from, something_held, some_taken_from, consume_amount, consume}
use Rattle.viper_meaning.specs.Forgotten.{memo_in, forgotten, forget}
use Rattle.viper_meaning.specs.Value.{truth_in, perm_in}
use Rattle.viper_meaning.proofs.KeptLaws.{is_kept, fails_kept, blocks_kept, then_kept, found_kept, unless_kept, if_kept, fitting_kept}
use Rattle.viper_meaning.proofs.SignLaws.{any_events, any_value, after_any, where_not, added_sign}
use Rattle.viper_meaning.proofs.RunKeptLaws.{before_kept, evaluating_kept, then_do_kept, taking_kept, if_run_kept}

abbrev SignKept : Run State → Type 0
SignKept r = KeepsRun IsAny IsAny IsNonnegative r

-- goes on with whatever it is
then_any : {X : Type 0} (e : Evaluated X) {go : X → Run State} → ((x : X) → SignKept (go x)) → SignKept (evaluating e go)
then_any e g = evaluating_kept (any_value e) (λ x u. g x)

chosen_any : {go : Fraction → Run State} → ((q : Fraction) → SignKept (go q)) → SignKept (taking_amount go)
chosen_any g = taking_kept {Q = IsAny} amount_in (λ c u. any_found (amount_in c)) (λ q u. before_kept (event.Wild q ∷ []) (any_events (event.Wild q ∷ [])) (g q))

held_sign : {s : State} → IsNonnegative s → (x : Resource) → IfSome (held_at s x) IsNotNegative
held_sign h (Place f r) = mask_not_negative h f r
held_sign h (Instance p key) = amount_not_negative h p key

with_held_sign : {s : State} → IsNonnegative s → (x : Resource) (q : Fraction) → IsNotNegative q → IsNonnegative (with_held s x q)
with_held_sign h (Place f r) q i = with_mask_nonnegative h f r q i
with_held_sign h (Instance p key) q i = with_amount_nonnegative h p key q i

-- goes on where the test holds
pub where_so : {X : Type 0} {P : X → Type 0} (b : Bool) {i e : Evaluated X} → Keeps IsAny P i → (b ≡ true → Keeps IsAny P e) → Keeps IsAny P (unless (not b) i e)
where_so true h g = g refl
where_so false h g = h

more_held_sign : (b : Bound) (k : Fraction) (x : Resource) (at : Pos) (s : State) (q : Fraction) → IsNotNegative k → IsNotNegative q → IsNonnegative s → Keeps IsAny IsNonnegative (more_held b k x at s q)
more_held_sign b k x at s q i j h =
    unless_kept (is_null x) blocks_kept (then_kept (found_kept (held_at s x) (held_sign h x)) (λ held n. then_kept (added_sign b held k q at n i j) (λ all a.
    unless_kept (is_too_much x all) blocks_kept (is_kept (with_held_sign h x all a)))))

given_to_sign : (b : Bound) (sc : Scene) (k : Fraction) (x : Resource) (at : Pos) (s : State) (q : Fraction) → IsNotNegative k → IsNonnegative s → Keeps IsAny IsNonnegative (given_to b sc k x at s q)
given_to_sign b sc k x at s q i h = where_not (is_negative q) (is_negative q) refl (fails_kept sc at kind.Negative) (λ j. if_kept (is_none q) (is_kept h) (more_held_sign b k x at s q i j h))

some_given_sign : (b : Bound) (k : Fraction) (x : Resource) (at : Pos) (s : State) (q : Fraction) → IsNotNegative k → IsNonnegative s → Keeps IsAny IsNonnegative (some_given_to b k x at s q)
some_given_sign b k x at s q i h = where_so (is_positive q) blocks_kept (λ j. more_held_sign b k x at s q i (positive_not_negative q j) h)

rest_sign : (b : Bound) (sc : Scene) (at : Pos) (held q : Fraction) → Keeps IsAny IsNotNegative (rest_of b sc at held q)
rest_sign b sc at held q =
    then_kept (fitting_kept {P = λ less. is_lt (order held q) ≡ less} b (fits_order held q) at (is_lt (order held q)) (λ fits. refl)) (λ less e.
    where_not (is_lt (order held q)) less e (fails_kept sc at kind.Perm) (λ enough.
    fitting_kept {P = IsNotNegative} b (fits_difference held q) at (difference held q) (λ fits. difference_not_negative held q enough)))

taken_from_sign : (b : Bound) (sc : Scene) (k : Fraction) (x : Resource) (at : Pos) (left : State) (q : Fraction) → IsNonnegative left → Keeps IsAny IsNonnegative (taken_from b sc k x at left q)
taken_from_sign b sc k x at left q h =
    unless_kept (is_negative q) (fails_kept sc at kind.Negative) (after_any (found (held_at left x)) (λ held. after_any _ (λ some.
    then_kept (rest_sign b sc at held some) (λ rest j. is_kept (with_held_sign h x rest j)))))

turned : (o : Ordering) → is_lt o ≡ true → is_lt (ordering_reverse o) ≡ false
turned Less h = refl
turned Equal h = absurd (true≢false (sym h))
turned Greater h = absurd (true≢false (sym h))

pub less_is_enough : (held q : Fraction) → is_lt (order q held) ≡ true → is_lt (order held q) ≡ false
less_is_enough held q h = ap is_lt (order_antisymm held q) ∙ turned (order q held) h

some_taken_sign : (b : Bound) (x : Resource) (at : Pos) (left : State) (held q : Fraction) → IsNonnegative left → Keeps IsAny IsNonnegative (some_taken_from b x at left held q)
some_taken_sign b x at left held q h =
    unless_kept (not (is_positive q)) blocks_kept (then_kept (fitting_kept {P = λ less. is_lt (order q held) ≡ less} b (fits_order q held) at (is_lt (order q held)) (λ fits. refl)) (λ less e.
    where_so less blocks_kept (λ so. then_kept (fitting_kept {P = IsNotNegative} b (fits_difference held q) at (difference held q) (λ fits. difference_not_negative held q (less_is_enough held q (e ∙ so)))) (λ rest j.
    is_kept (with_held_sign h x rest j)))))

produce_amount_sign : (b : Bound) (m : t.Amt) (sc : Scene) (k : Fraction) (at : Pos) (s : State) (x : Resource) → IsNotNegative k → IsNonnegative s → SignKept (produce_amount b m sc k at s x)
produce_amount_sign b (t.Is e) sc k at s x i h = at_end (after_any (perm_in b e s sc) (λ q. given_to_sign b sc k x at s q i h))
produce_amount_sign b t.Wildcard sc k at s x i h = chosen_any (λ q. at_end (some_given_sign b k x at s q i h))

pub produce_sign : (b : Bound) (a : t.Assertion) (sc : Scene) (k : Fraction) (s : State) → IsNotNegative k → IsNonnegative s → SignKept (produce b a sc k s)
produce_sign b (t.Fact e at) sc k s i h = at_end (after_any (truth_in b e s sc) (λ holds. if_kept holds (is_kept h) blocks_kept))
produce_sign b (t.Acc e f m at) sc k s i h = then_any (place_in b e f s sc) (λ x. produce_amount_sign b m sc k at s x i h)
produce_sign b (t.Inst p args m at) sc k s i h = then_any (instance_in b p args s sc) (λ x. produce_amount_sign b m sc k at s x i h)
produce_sign b (t.And x y) sc k s i h = then_do_kept (produce_sign b x sc k s i h) (λ u j. produce_sign b y sc k u i j)
produce_sign b (t.Implies e x) sc k s i h = then_any (truth_in b e s sc) (λ holds. if_run_kept holds (produce_sign b x sc k s i h) (at_end (is_kept h)))
produce_sign b (t.ChooseAssertion e x y) sc k s i h = then_any (truth_in b e s sc) (λ holds. if_run_kept holds (produce_sign b x sc k s i h) (produce_sign b y sc k s i h))

consume_amount_sign : (b : Bound) (m : t.Amt) (start : State) (sc : Scene) (k : Fraction) (at : Pos) (left : State) (x : Resource) → IsNonnegative left → SignKept (consume_amount b m start sc k at left x)
consume_amount_sign b (t.Is e) start sc k at left x h = at_end (after_any (perm_in b e start sc) (λ q. taken_from_sign b sc k x at left q h))
consume_amount_sign b t.Wildcard start sc k at left x h = then_any (something_held sc x at left) (λ held. chosen_any (λ q. at_end (some_taken_sign b x at left held q h)))

pub consume_sign : (b : Bound) (a : t.Assertion) (start : State) (sc : Scene) (k : Fraction) (left : State) → IsNonnegative left → SignKept (consume b a start sc k left)
consume_sign b (t.Fact e at) start sc k left h = at_end (after_any (truth_in b e start sc) (λ holds. if_kept holds (is_kept h) (fails_kept sc at kind.Fact)))
consume_sign b (t.Acc e f m at) start sc k left h = then_any (place_in b e f start sc) (λ x. consume_amount_sign b m start sc k at left x h)
consume_sign b (t.Inst p args m at) start sc k left h = then_any (instance_in b p args start sc) (λ x. consume_amount_sign b m start sc k at left x h)
consume_sign b (t.And x y) start sc k left h = then_do_kept (consume_sign b x start sc k left h) (λ u j. consume_sign b y start sc k u j)
consume_sign b (t.Implies e x) start sc k left h = then_any (truth_in b e start sc) (λ holds. if_run_kept holds (consume_sign b x start sc k left h) (at_end (is_kept h)))
consume_sign b (t.ChooseAssertion e x y) start sc k left h = then_any (truth_in b e start sc) (λ holds. if_run_kept holds (consume_sign b x start sc k left h) (consume_sign b y start sc k left h))

-- forgetting changes no mask and no amount
pub forget_sign : (layout : Layout) (s : State) → IsNonnegative s → SignKept (forget layout s)
forget_sign layout s h = taking_kept {Q = IsAny} (memo_in layout) (λ c u. any_found (memo_in layout c)) (λ m u.
    before_kept (event.Whole (forgotten s m) ∷ []) (any_events (event.Whole (forgotten s m) ∷ [])) (at_end (is_kept (record { mask = h.mask; amount = h.amount }))))
