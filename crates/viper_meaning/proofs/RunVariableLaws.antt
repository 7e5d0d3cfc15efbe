-- A run of an assertion looks at no variables but those of the assertion.
use Rattle.std.proofs.Common.{◌≡◌, refl, List, if◌then◌else◌}
use Rattle.vb_base.specs.declared.labels.Kind.TheVariants as kind
use Rattle.vb_base.specs.declared.places.Pos.{Pos}
use Rattle.vb_value.specs.Bound.{Bound}
use Rattle.vb_value.specs.Fraction.{Fraction}
use Rattle.vb_value.specs.declared.values.Value.{Value}
use Rattle.viper_core.specs.Expr as t
use Rattle.viper_state.specs.State.{State}
use Rattle.viper_state.specs.Run.{Scene, with_variables}
use Rattle.viper_meaning.specs.Assertions.{given_to, produce_amount, produce, taken_from, consume_amount, consume}
use Rattle.viper_meaning.specs.Ends.{is, fails, blocks, then_with}
use Rattle.viper_meaning.specs.Resource.{Resource, Place, Instance}
use Rattle.viper_meaning.specs.Run.{ended, goes, evaluating, then_do}
use Rattle.viper_meaning.specs.Value.{as_truth, as_perm, as_ref, as_key}
use Rattle.viper_meaning.specs.Variables.{AgreeOnAmount, AgreeOnAssertion}
use Rattle.viper_meaning.proofs.VariableLaws.{value_agrees, values_agree}

module _ (b : Bound) (vs : List Value) where
  produce_amount_agrees : (m : t.Amt) (sc : Scene) (k : Fraction) (at : Pos) (s : State) (x : Resource) → AgreeOnAmount vs sc.store m → produce_amount b m (with_variables vs sc) k at s x ≡ produce_amount b m sc k at s x
  produce_amount_agrees (t.Is e) sc k at s x h = λ i. ended (then_with (as_perm (value_agrees b vs e s sc h i)) (given_to b sc k x at s))
  produce_amount_agrees t.Wildcard sc k at s x h = refl

  pub produce_agrees : (a : t.Assertion) (sc : Scene) (k : Fraction) (s : State) → AgreeOnAssertion vs sc.store a → produce b a (with_variables vs sc) k s ≡ produce b a sc k s
  produce_agrees (t.Fact e at) sc k s h = λ i. ended (then_with (as_truth (value_agrees b vs e s sc h i)) (λ holds. if holds then is s else blocks))
  produce_agrees (t.Acc e f m at) sc k s h = λ i.
      evaluating (then_with (as_ref (value_agrees b vs e s sc h.0 i)) (λ r. is (Place f r))) (λ x. produce_amount_agrees m sc k at s x h.1 i)
  produce_agrees (t.Inst p args m at) sc k s h = λ i.
      evaluating (then_with (as_key (values_agree b vs args s sc h.0 i)) (λ key. is (Instance p key))) (λ x. produce_amount_agrees m sc k at s x h.1 i)
  produce_agrees (t.And x y) sc k s h = λ i. then_do (produce_agrees x sc k s h.0 i) (λ u. produce_agrees y sc k u h.1 i)
  produce_agrees (t.Implies e x) sc k s h = λ i. evaluating (as_truth (value_agrees b vs e s sc h.0 i)) (λ holds. if holds then produce_agrees x sc k s h.1 i else goes s)
  produce_agrees (t.ChooseAssertion e x y) sc k s h = λ i.
      evaluating (as_truth (value_agrees b vs e s sc h.0 i)) (λ holds. if holds then produce_agrees x sc k s h.1 i else produce_agrees y sc k s h.2 i)

  consume_amount_agrees : (m : t.Amt) (start : State) (sc : Scene) (k : Fraction) (at : Pos) (left : State) (x : Resource) → AgreeOnAmount vs sc.store m →
      consume_amount b m start (with_variables vs sc) k at left x ≡ consume_amount b m start sc k at left x
  consume_amount_agrees (t.Is e) start sc k at left x h = λ i. ended (then_with (as_perm (value_agrees b vs e start sc h i)) (taken_from b sc k x at left))
  consume_amount_agrees t.Wildcard start sc k at left x h = refl

  pub consume_agrees : (a : t.Assertion) (start : State) (sc : Scene) (k : Fraction) (left : State) → AgreeOnAssertion vs sc.store a → consume b a start (with_variables vs sc) k left ≡ consume b a start sc k left
  consume_agrees (t.Fact e at) start sc k left h = λ i. ended (then_with (as_truth (value_agrees b vs e start sc h i)) (λ holds. if holds then is left else fails sc at kind.Fact))
  consume_agrees (t.Acc e f m at) start sc k left h = λ i.
      evaluating (then_with (as_ref (value_agrees b vs e start sc h.0 i)) (λ r. is (Place f r))) (λ x. consume_amount_agrees m start sc k at left x h.1 i)
  consume_agrees (t.Inst p args m at) start sc k left h = λ i.
      evaluating (then_with (as_key (values_agree b vs args start sc h.0 i)) (λ key. is (Instance p key))) (λ x. consume_amount_agrees m start sc k at left x h.1 i)
  consume_agrees (t.And x y) start sc k left h = λ i. then_do (consume_agrees x start sc k left h.0 i) (λ u. consume_agrees y start sc k u h.1 i)
  consume_agrees (t.Implies e x) start sc k left h = λ i. evaluating (as_truth (value_agrees b vs e start sc h.0 i)) (λ holds. if holds then consume_agrees x start sc k left h.1 i else goes left)
  consume_agrees (t.ChooseAssertion e x y) start sc k left h = λ i.
      evaluating (as_truth (value_agrees b vs e start sc h.0 i)) (λ holds. if holds then consume_agrees x start sc k left h.1 i else consume_agrees y start sc k left h.2 i)
