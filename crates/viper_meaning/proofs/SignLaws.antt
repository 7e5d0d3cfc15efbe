-- What is opened has no negative permission.
use Rattle.std.proofs.Common.{◌≡◌, refl, ℕ, Bool, true, false, not, List, [], ◌∷◌, All}
use Rattle.std.proofs.lemmas.List.Elements.{All-nil, All-cons}
use Rattle.std.specs.Ordering.{is_lt}
use Rattle.vb_base.specs.declared.labels.Kind.TheVariants as kind
use Rattle.vb_base.specs.declared.places.Pos.{Pos}
use Rattle.vb_value.specs.Bound.{Bound}
use Rattle.vb_value.specs.Content.{Content, same_content}
use Rattle.vb_value.specs.Fraction.{Fraction, is_negative, is_positive, is_none, is_above_one, sum, difference, product, order, fits_sum, fits_difference, fits_product, fits_order}
use Rattle.vb_value.specs.Value.{value_eq}
use Rattle.vb_value.specs.declared.values.Value.{Value}
use Rattle.vb_value.proofs.SignLaws.{sum_not_negative, product_not_negative, difference_not_negative, positive_not_negative}
use Rattle.viper_core.specs.Expr as t
use Rattle.viper_state.specs.State.{State, Key, value_at, mask_at, content_at, amount_at}
use Rattle.viper_state.specs.Event.{Event}
use Rattle.viper_state.specs.Run.{Scene}
use Rattle.viper_state.specs.Within.{IsNotNegative, IsNonnegative}
use Rattle.viper_state.proofs.EachLaws.{mask_not_negative, amount_not_negative, with_value_nonnegative, with_mask_nonnegative, with_content_nonnegative, with_amount_nonnegative}
use Rattle.viper_meaning.specs.Ends.{Evaluated, ends, Is, Fails, Blocked, Over, is, then_with, found, unless}
use Rattle.viper_meaning.specs.Places.{taken, unit_of, pair_of, leaf_for, added, written, contained, fill_leaf, fill_place, fill_instance}
use Rattle.viper_meaning.specs.Value.{as_truth, as_ref, as_key, value, values, amount_of, opened}
use Rattle.viper_meaning.specs.Kept as kept
use Rattle.viper_meaning.specs.Kept.{IsAny, Keeps}
use Rattle.viper_meaning.proofs.KeptLaws.{is_kept, fails_kept, blocks_kept, then_kept, found_kept, unless_kept, if_kept, fitting_kept}

pub any_events : (es : List Event) → All IsAny es
any_events [] = All-nil IsAny
any_events (e ∷ es) = All-cons IsAny e es tt (any_events es)

pub any_value : {X : Type 0} (e : Evaluated X) → Keeps IsAny IsAny e
any_value (ends es (Is x)) = kept.value (any_events es) tt
any_value (ends es (Fails l)) = kept.failure (any_events es)
any_value (ends es Blocked) = kept.blocked (any_events es)
any_value (ends es (Over at)) = kept.over (any_events es)

-- goes on with whatever it is
pub after_any : {X Y : Type 0} {P : Y → Type 0} (e : Evaluated X) {go : X → Evaluated Y} → ((x : X) → Keeps IsAny P (go x)) → Keeps IsAny P (then_with e go)
after_any e g = then_kept (any_value e) (λ x u. g x)

-- goes on where the test does not hold
pub where_not : {X : Type 0} {P : X → Type 0} (b c : Bool) {i e : Evaluated X} → b ≡ c → Keeps IsAny P i → (b ≡ false → Keeps IsAny P e) → Keeps IsAny P (unless c i e)
where_not b true same h g = h
where_not b false same h g = g same

-- ---- taking and filling

pub taken_sign : (b : Bound) (sc : Scene) (s : State) (p : ℕ) (key : Key) (q : Fraction) (at : Pos) → IsNonnegative s → Keeps IsAny IsNonnegative (taken b sc s p key q at)
taken_sign b sc s p key q at h =
    unless_kept (not (is_positive q)) (fails_kept sc at kind.Amount) (after_any (found (amount_at s p key)) (λ held.
    then_kept (fitting_kept {P = λ less. is_lt (order held q) ≡ less} b (fits_order held q) at (is_lt (order held q)) (λ fits. refl)) (λ less e.
    where_not (is_lt (order held q)) less e (fails_kept sc at kind.Perm) (λ enough.
    then_kept (fitting_kept {P = IsNotNegative} b (fits_difference held q) at (difference held q) (λ fits. difference_not_negative held q enough)) (λ left j.
    is_kept (with_amount_nonnegative h p key left j))))))

pub added_sign : (b : Bound) (held k q : Fraction) (at : Pos) → IsNotNegative held → IsNotNegative k → IsNotNegative q → Keeps IsAny IsNotNegative (added b held k q at)
added_sign b held k q at h i j =
    then_kept (fitting_kept {P = IsNotNegative} b (fits_product k q) at (product k q) (λ fits. product_not_negative k q i j)) (λ more l.
    fitting_kept b (fits_sum held more) at (sum held more) (λ fits. sum_not_negative held more h l))

nothing_sign : (c : Content) (s : State) → IsNonnegative s → Keeps IsAny IsNonnegative (then_with (unit_of c) (λ u. is s))
nothing_sign c s h = after_any (unit_of c) (λ u. is_kept h)

written_sign : (s : State) (f r : ℕ) (v : Value) (held : Fraction) → IsNonnegative s → Keeps IsAny IsNonnegative (written s f r v held)
written_sign s f r v held h =
    if_kept (is_none held) (is_kept (with_value_nonnegative h f r v))
    (after_any (found (value_at s f r)) (λ old. unless_kept (not (value_eq v old)) blocks_kept (is_kept h)))

fill_leaf_sign : (b : Bound) (k : Fraction) (f r : ℕ) (q : Fraction) (v : Value) (at : Pos) (s : State) → IsNotNegative k → IsNotNegative q → IsNonnegative s → Keeps IsAny IsNonnegative (fill_leaf b k f r q v at s)
fill_leaf_sign b k f r q v at s i j h =
    then_kept (found_kept (mask_at s f r) (mask_not_negative h f r)) (λ held m. then_kept (written_sign s f r v held h) (λ t u. then_kept (added_sign b held k q at m i j) (λ all a.
    unless_kept (is_above_one all) blocks_kept (is_kept (with_mask_nonnegative u f r all a)))))

fill_place_sign : (b : Bound) (sc : Scene) (k : Fraction) (f r : ℕ) (q : Fraction) (c : Content) (at : Pos) (s : State) → IsNotNegative k → IsNonnegative s → Keeps IsAny IsNonnegative (fill_place b sc k f r q c at s)
fill_place_sign b sc k f r q c at s i h =
    where_not (is_negative q) (is_negative q) refl (fails_kept sc at kind.Negative) (λ j.
    if_kept (is_none q) (nothing_sign c s h) (after_any (leaf_for s f r c) (λ v. fill_leaf_sign b k f r q v at s i j h)))

pub contained_sign : (s : State) (p : ℕ) (key : Key) (c : Content) (held : Fraction) → IsNonnegative s → Keeps IsAny IsNonnegative (contained s p key c held)
contained_sign s p key c held h =
    if_kept (is_none held) (is_kept (with_content_nonnegative h p key c))
    (after_any (found (content_at s p key)) (λ old. unless_kept (not (same_content c old)) blocks_kept (is_kept h)))

fill_instance_sign : (b : Bound) (sc : Scene) (k : Fraction) (p : ℕ) (key : Key) (q : Fraction) (c : Content) (at : Pos) (s : State) → IsNotNegative k → IsNonnegative s → Keeps IsAny IsNonnegative (fill_instance b sc k p key q c at s)
fill_instance_sign b sc k p key q c at s i h =
    where_not (is_negative q) (is_negative q) refl (fails_kept sc at kind.Negative) (λ j.
    if_kept (is_none q) (nothing_sign c s h) (then_kept (found_kept (amount_at s p key) (amount_not_negative h p key)) (λ held m.
    then_kept (contained_sign s p key c held h) (λ t u. then_kept (added_sign b held k q at m i j) (λ all a. is_kept (with_amount_nonnegative u p key all a))))))

opened_keeps : (b : Bound) (a : t.Assertion) (c : Content) (s : State) (sc : Scene) (k : Fraction) → IsNotNegative k → IsNonnegative s → Keeps IsAny IsNonnegative (opened b a c s sc k)
opened_keeps b (t.Fact a at) c s sc k i h = after_any (as_truth (value b a s sc)) (λ holds. if_kept holds (nothing_sign c s h) blocks_kept)
opened_keeps b (t.Acc a f m at) c s sc k i h = after_any (as_ref (value b a s sc)) (λ r. after_any (amount_of b m s sc) (λ q. fill_place_sign b sc k f r q c at s i h))
opened_keeps b (t.Inst p args m at) c s sc k i h = after_any (as_key (values b args s sc)) (λ key. after_any (amount_of b m s sc) (λ q. fill_instance_sign b sc k p key q c at s i h))
opened_keeps b (t.And x y) c s sc k i h = after_any (pair_of c) (λ parts. then_kept (opened_keeps b x parts.0 s sc k i h) (λ t u. opened_keeps b y parts.1 t sc k i u))
opened_keeps b (t.Implies a x) c s sc k i h = after_any (as_truth (value b a s sc)) (λ holds. if_kept holds (opened_keeps b x c s sc k i h) (nothing_sign c s h))
opened_keeps b (t.ChooseAssertion a x y) c s sc k i h = after_any (as_truth (value b a s sc)) (λ holds. if_kept holds (opened_keeps b x c s sc k i h) (opened_keeps b y c s sc k i h))

pub opened_sign : (b : Bound) (a : t.Assertion) (c : Content) (s : State) (sc : Scene) (k : Fraction) → is_positive k ≡ true → IsNonnegative s → Keeps IsAny IsNonnegative (opened b a c s sc k)
opened_sign b a c s sc k i h = opened_keeps b a c s sc k (positive_not_negative k i) h
