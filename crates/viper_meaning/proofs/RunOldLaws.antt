-- A run of an assertion without `old` does the same whatever the old state is.
use Rattle.std.proofs.Common.{◌≡◌, refl, if◌then◌else◌}
use Rattle.vb_base.specs.declared.labels.Kind.TheVariants as kind
use Rattle.vb_base.specs.declared.places.Pos.{Pos}
use Rattle.vb_value.specs.Bound.{Bound}
use Rattle.vb_value.specs.Fraction.{Fraction}
use Rattle.viper_core.specs.Expr as t
use Rattle.viper_core.specs.Plain.{AmountHasNoOld, AssertionHasNoOld}
use Rattle.viper_state.specs.State.{State}
use Rattle.viper_state.specs.Run.{Scene, with_old}
use Rattle.viper_meaning.specs.Assertions.{given_to, produce_amount, produce, taken_from, consume_amount, consume}
use Rattle.viper_meaning.specs.Ends.{is, fails, blocks, then_with}
use Rattle.viper_meaning.specs.Resource.{Resource, Place, Instance}
use Rattle.viper_meaning.specs.Run.{ended, goes, evaluating, then_do}
use Rattle.viper_meaning.specs.Value.{as_truth, as_perm, as_ref, as_key}
use Rattle.viper_meaning.proofs.OldLaws.{value_same, values_same}

module _ (b : Bound) (o : State) where
  produce_amount_same : (m : t.Amt) (sc : Scene) (k : Fraction) (at : Pos) (s : State) (x : Resource) → AmountHasNoOld m → produce_amount b m (with_old o sc) k at s x ≡ produce_amount b m sc k at s x
  produce_amount_same (t.Is e) sc k at s x h = λ i. ended (then_with (as_perm (value_same b o e s sc h i)) (given_to b sc k x at s))
  produce_amount_same t.Wildcard sc k at s x h = refl

  pub produce_same : (a : t.Assertion) (sc : Scene) (k : Fraction) (s : State) → AssertionHasNoOld a → produce b a (with_old o sc) k s ≡ produce b a sc k s
  produce_same (t.Fact e at) sc k s h = λ i. ended (then_with (as_truth (value_same b o e s sc h i)) (λ holds. if holds then is s else blocks))
  produce_same (t.Acc e f m at) sc k s h = λ i.
      evaluating (then_with (as_ref (value_same b o e s sc h.0 i)) (λ r. is (Place f r))) (λ x. produce_amount_same m sc k at s x h.1 i)
  produce_same (t.Inst p args m at) sc k s h = λ i.
      evaluating (then_with (as_key (values_same b o args s sc h.0 i)) (λ key. is (Instance p key))) (λ x. produce_amount_same m sc k at s x h.1 i)
  produce_same (t.And x y) sc k s h = λ i. then_do (produce_same x sc k s h.0 i) (λ u. produce_same y sc k u h.1 i)
  produce_same (t.Implies e x) sc k s h = λ i. evaluating (as_truth (value_same b o e s sc h.0 i)) (λ holds. if holds then produce_same x sc k s h.1 i else goes s)
  produce_same (t.ChooseAssertion e x y) sc k s h = λ i.
      evaluating (as_truth (value_same b o e s sc h.0 i)) (λ holds. if holds then produce_same x sc k s h.1 i else produce_same y sc k s h.2 i)

  consume_amount_same : (m : t.Amt) (start : State) (sc : Scene) (k : Fraction) (at : Pos) (left : State) (x : Resource) → AmountHasNoOld m →
      consume_amount b m start (with_old o sc) k at left x ≡ consume_amount b m start sc k at left x
  consume_amount_same (t.Is e) start sc k at left x h = λ i. ended (then_with (as_perm (value_same b o e start sc h i)) (taken_from b sc k x at left))
  consume_amount_same t.Wildcard start sc k at left x h = refl

  pub consume_same : (a : t.Assertion) (start : State) (sc : Scene) (k : Fraction) (left : State) → AssertionHasNoOld a → consume b a start (with_old o sc) k left ≡ consume b a start sc k left
  consume_same (t.Fact e at) start sc k left h = λ i. ended (then_with (as_truth (value_same b o e start sc h i)) (λ holds. if holds then is left else fails sc at kind.Fact))
  consume_same (t.Acc e f m at) start sc k left h = λ i.
      evaluating (then_with (as_ref (value_same b o e start sc h.0 i)) (λ r. is (Place f r))) (λ x. consume_amount_same m start sc k at left x h.1 i)
  consume_same (t.Inst p args m at) start sc k left h = λ i.
      evaluating (then_with (as_key (values_same b o args start sc h.0 i)) (λ key. is (Instance p key))) (λ x. consume_amount_same m start sc k at left x h.1 i)
  consume_same (t.And x y) start sc k left h = λ i. then_do (consume_same x start sc k left h.0 i) (λ u. consume_same y start sc k u h.1 i)
  consume_same (t.Implies e x) start sc k left h = λ i. evaluating (as_truth (value_same b o e start sc h.0 i)) (λ holds. if holds then consume_same x start sc k left h.1 i else goes left)
  consume_same (t.ChooseAssertion e x y) start sc k left h = λ i.
      evaluating (as_truth (value_same b o e start sc h.0 i)) (λ holds. if holds then consume_same x start sc k left h.1 i else consume_same y start sc k left h.2 i)
