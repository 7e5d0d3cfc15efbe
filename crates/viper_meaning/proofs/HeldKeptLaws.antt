-- What stays when another amount is held is kept by producing and consuming, whatever is chosen. So they change neither the
-- heap nor the contents.
use Rattle.std.proofs.Common.{◌≡◌, refl, not, [], ◌∷◌}
use Rattle.std.specs.Ordering.{is_lt}
use Rattle.vb_base.specs.declared.labels.Kind.TheVariants as kind
use Rattle.vb_base.specs.declared.places.Pos.{Pos}
use Rattle.vb_value.specs.Bound.{Bound}
use Rattle.vb_value.specs.Fraction.{Fraction, is_negative, is_positive, is_none, product, order, fits_product, fits_order}
use Rattle.viper_core.specs.Expr as t
use Rattle.viper_state.specs.Event as event
use Rattle.viper_state.specs.State.{State}
use Rattle.viper_state.specs.Run.{Scene}
use Rattle.viper_meaning.specs.Assertions.{place_in, instance_in, more_held, given_to, produce_amount, produce, rest_of, taken_from, something_held, some_taken_from, consume_amount, consume}
use Rattle.viper_meaning.specs.Ends.{found, fitting}
use Rattle.viper_meaning.specs.Kept.{IsAny, Keeps}
use Rattle.viper_meaning.specs.KeptRuns.{KeepsRun, at_end}
use Rattle.viper_meaning.specs.Places.{added}
use Rattle.viper_meaning.specs.Resource.{Resource, Place, Instance, held_at, with_held, is_null, is_too_much}
use Rattle.viper_meaning.specs.Run.{Run, taking_amount, amount_in}
use Rattle.viper_meaning.specs.Value.{truth_in, perm_in}
use Rattle.viper_meaning.proofs.ClosedLaws.{any_found}
use Rattle.viper_meaning.proofs.KeptLaws.{is_kept, fails_kept, blocks_kept, unless_kept, if_kept}
use Rattle.viper_meaning.proofs.RunKeptLaws.{before_kept, then_do_kept, taking_kept, if_run_kept}
use Rattle.viper_meaning.proofs.SignLaws.{any_events, after_any}
use Rattle.viper_meaning.proofs.StateKeptLaws.{then_any}

pub chosen_any : {P : State → Type 0} {go : Fraction → Run State} → ((q : Fraction) → KeepsRun IsAny IsAny P (go q)) → KeepsRun IsAny IsAny P (taking_amount go)
chosen_any g = taking_kept {Q = IsAny} amount_in (λ c u. any_found (amount_in c)) (λ q u. before_kept (event.Wild q ∷ []) (any_events (event.Wild q ∷ [])) (g q))

module _ (b : Bound) (P : State → Type 0) (stays : (s : State) (x : Resource) (q : Fraction) → P s → P (with_held s x q)) where
  -- ---- producing

  more_held_keeps : (k : Fraction) (x : Resource) (at : Pos) (s : State) (q : Fraction) → P s → Keeps IsAny P (more_held b k x at s q)
  more_held_keeps k x at s q h =
      unless_kept (is_null x) blocks_kept (after_any (found (held_at s x)) (λ held. after_any (added b held k q at) (λ all. unless_kept (is_too_much x all) blocks_kept (is_kept (stays s x all h)))))

  given_to_keeps : (sc : Scene) (k : Fraction) (x : Resource) (at : Pos) (s : State) (q : Fraction) → P s → Keeps IsAny P (given_to b sc k x at s q)
  given_to_keeps sc k x at s q h = unless_kept (is_negative q) (fails_kept sc at kind.Negative) (if_kept (is_none q) (is_kept h) (more_held_keeps k x at s q h))

  produce_amount_keeps : (m : t.Amt) (sc : Scene) (k : Fraction) (at : Pos) (s : State) (x : Resource) → P s → KeepsRun IsAny IsAny P (produce_amount b m sc k at s x)
  produce_amount_keeps (t.Is e) sc k at s x h = at_end (after_any (perm_in b e s sc) (λ q. given_to_keeps sc k x at s q h))
  produce_amount_keeps t.Wildcard sc k at s x h = chosen_any (λ q. at_end (unless_kept (not (is_positive q)) blocks_kept (more_held_keeps k x at s q h)))

  pub produce_keeps : (a : t.Assertion) (sc : Scene) (k : Fraction) (s : State) → P s → KeepsRun IsAny IsAny P (produce b a sc k s)
  produce_keeps (t.Fact e at) sc k s h = at_end (after_any (truth_in b e s sc) (λ holds. if_kept holds (is_kept h) blocks_kept))
  produce_keeps (t.Acc e f m at) sc k s h = then_any (place_in b e f s sc) (λ x. produce_amount_keeps m sc k at s x h)
  produce_keeps (t.Inst p args m at) sc k s h = then_any (instance_in b p args s sc) (λ x. produce_amount_keeps m sc k at s x h)
  produce_keeps (t.And x y) sc k s h = then_do_kept (produce_keeps x sc k s h) (λ u i. produce_keeps y sc k u i)
  produce_keeps (t.Implies e x) sc k s h = then_any (truth_in b e s sc) (λ holds. if_run_kept holds (produce_keeps x sc k s h) (at_end (is_kept h)))
  produce_keeps (t.ChooseAssertion e x y) sc k s h = then_any (truth_in b e s sc) (λ holds. if_run_kept holds (produce_keeps x sc k s h) (produce_keeps y sc k s h))

  -- ---- consuming

  taken_from_keeps : (sc : Scene) (k : Fraction) (x : Resource) (at : Pos) (left : State) (q : Fraction) → P left → Keeps IsAny P (taken_from b sc k x at left q)
  taken_from_keeps sc k x at left q h =
      unless_kept (is_negative q) (fails_kept sc at kind.Negative) (after_any (found (held_at left x)) (λ held. after_any (fitting b (fits_product k q) at (product k q)) (λ some.
      after_any (rest_of b sc at held some) (λ rest. is_kept (stays left x rest h)))))

  some_taken_keeps : (x : Resource) (at : Pos) (left : State) (held q : Fraction) → P left → Keeps IsAny P (some_taken_from b x at left held q)
  some_taken_keeps x at left held q h =
      unless_kept (not (is_positive q)) blocks_kept (after_any (fitting b (fits_order q held) at (is_lt (order q held))) (λ less. unless_kept (not less) blocks_kept (
      after_any _ (λ rest. is_kept (stays left x rest h)))))

  consume_amount_keeps : (m : t.Amt) (start : State) (sc : Scene) (k : Fraction) (at : Pos) (left : State) (x : Resource) → P left → KeepsRun IsAny IsAny P (consume_amount b m start sc k at left x)
  consume_amount_keeps (t.Is e) start sc k at left x h = at_end (after_any (perm_in b e start sc) (λ q. taken_from_keeps sc k x at left q h))
  consume_amount_keeps t.Wildcard start sc k at left x h = then_any (something_held sc x at left) (λ held. chosen_any (λ q. at_end (some_taken_keeps x at left held q h)))

  pub consume_keeps : (a : t.Assertion) (start : State) (sc : Scene) (k : Fraction) (left : State) → P left → KeepsRun IsAny IsAny P (consume b a start sc k left)
  consume_keeps (t.Fact e at) start sc k left h = at_end (after_any (truth_in b e start sc) (λ holds. if_kept holds (is_kept h) (fails_kept sc at kind.Fact)))
  consume_keeps (t.Acc e f m at) start sc k left h = then_any (place_in b e f start sc) (λ x. consume_amount_keeps m start sc k at left x h)
  consume_keeps (t.Inst p args m at) start sc k left h = then_any (instance_in b p args start sc) (λ x. consume_amount_keeps m start sc k at left x h)
  consume_keeps (t.And x y) start sc k left h = then_do_kept (consume_keeps x start sc k left h) (λ u i. consume_keeps y start sc k u i)
  consume_keeps (t.Implies e x) start sc k left h = then_any (truth_in b e start sc) (λ holds. if_run_kept holds (consume_keeps x start sc k left h) (at_end (is_kept h)))
  consume_keeps (t.ChooseAssertion e x y) start sc k left h = then_any (truth_in b e start sc) (λ holds. if_run_kept holds (consume_keeps x start sc k left h) (consume_keeps y start sc k left h))

-- ---- the heap and the contents

abbrev pub Stays : State → State → Type 0
Stays s t = (t.heap ≡ s.heap) × (t.content ≡ s.content)

held_stays : (s t : State) (x : Resource) (q : Fraction) → Stays s t → Stays s (with_held t x q)
held_stays s t (Place f r) q h = h
held_stays s t (Instance p key) q h = h

pub produce_stays : (b : Bound) (a : t.Assertion) (sc : Scene) (k : Fraction) (s : State) → KeepsRun IsAny IsAny (Stays s) (produce b a sc k s)
produce_stays b a sc k s = produce_keeps b (Stays s) (held_stays s) a sc k s (refl, refl)

pub consume_stays : (b : Bound) (a : t.Assertion) (start : State) (sc : Scene) (k : Fraction) (left : State) → KeepsRun IsAny IsAny (Stays left) (consume b a start sc k left)
consume_stays b a start sc k left = consume_keeps b (Stays left) (held_stays left) a start sc k left (refl, refl)
