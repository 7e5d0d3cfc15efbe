-- Only `old` looks at the old state.
use Rattle.std.proofs.Common.{◌≡◌, refl, ◌∷◌, if◌then◌else◌}
use Rattle.vb_value.specs.Bound.{Bound}
use Rattle.vb_value.specs.Content.{Content}
use Rattle.vb_value.specs.Fraction.{Fraction}
use Rattle.viper_core.specs.Expr as t
use Rattle.viper_core.specs.Plain.{HasNoOld, OpenedHasNoOld, HaveNoOld, AmountHasNoOld, AssertionHasNoOld}
use Rattle.viper_state.specs.State.{State, content_at}
use Rattle.viper_state.specs.Run.{Scene, with_variables, with_old}
use Rattle.viper_meaning.specs.Ends.{is, blocks, then_with, found}
use Rattle.viper_meaning.specs.Operators.{class_of, negative, negation}
use Rattle.viper_meaning.specs.Places.{read_field, key_of, taken, unit_of, pair_of, fill_place, fill_instance}
use Rattle.viper_meaning.proofs.SceneLaws.{in_class_same}
use Rattle.viper_meaning.specs.Value.{as_truth, as_perm, as_ref, as_key, value, unfolded, values, amount_of, opened}

module _ (b : Bound) (o : State) where
  mutual
    pub value_same : (e : t.Expr) (s : State) (sc : Scene) → HasNoOld e → value b e s (with_old o sc) ≡ value b e s sc
    value_same (t.Var x) s sc h = refl
    value_same (t.Int n) s sc h = refl
    value_same (t.Bool a) s sc h = refl
    value_same t.Null s sc h = refl
    value_same (t.Part q) s sc h = refl
    value_same (t.Neg a) s sc h = λ i. then_with (value_same a s sc h i) negative
    value_same (t.Not a) s sc h = λ i. then_with (value_same a s sc h i) negation
    value_same (t.Bin p x y at) s sc h = in_class_same b sc.store o (class_of p) sc p at (value_same x s sc h.0) (value_same y s sc h.1)
    value_same (t.Choose a x y) s sc h = λ i. then_with (as_truth (value_same a s sc h.0 i)) (λ holds. if holds then value_same x s sc h.1 i else value_same y s sc h.2 i)
    value_same (t.Field a f at) s sc h = λ i. then_with (as_ref (value_same a s sc h i)) (read_field sc s f at)
    value_same (t.Old a) s sc h = absurd h
    value_same (t.Unfolding q) s sc h = unfolded_same q s sc h

    unfolded_same : (q : t.Opened) (s : State) (sc : Scene) → OpenedHasNoOld q → unfolded b q s (with_old o sc) ≡ unfolded b q s sc
    unfolded_same (t.opened p args amount body inner at) s sc h = λ i.
        then_with (values_same args s sc h.0 i) (λ vs. then_with (as_perm (value_same amount s sc h.1 i)) (λ q. then_with (found (key_of vs)) (λ key.
        then_with (taken b sc s p key q at) (λ less. then_with (found (content_at s p key)) (λ c.
        then_with (opened_same body c less (with_variables vs sc) q h.2 i) (λ copy. value_same inner copy sc h.3 i))))))

    pub values_same : (es : t.Exprs) (s : State) (sc : Scene) → HaveNoOld es → values b es s (with_old o sc) ≡ values b es s sc
    values_same t.none s sc h = refl
    values_same (t.more a rest) s sc h = λ i. then_with (value_same a s sc h.0 i) (λ v. then_with (values_same rest s sc h.1 i) (λ vs. is (v ∷ vs)))

    pub amount_same : (m : t.Amt) (s : State) (sc : Scene) → AmountHasNoOld m → amount_of b m s (with_old o sc) ≡ amount_of b m s sc
    amount_same (t.Is a) s sc h = λ i. as_perm (value_same a s sc h i)
    amount_same t.Wildcard s sc h = refl

    pub opened_same : (a : t.Assertion) (c : Content) (s : State) (sc : Scene) (k : Fraction) → AssertionHasNoOld a → opened b a c s (with_old o sc) k ≡ opened b a c s sc k
    opened_same (t.Fact a at) c s sc k h = λ i. then_with (as_truth (value_same a s sc h i)) (λ holds. if holds then then_with (unit_of c) (λ u. is s) else blocks)
    opened_same (t.Acc a f m at) c s sc k h = λ i.
        then_with (as_ref (value_same a s sc h.0 i)) (λ r. then_with (amount_same m s sc h.1 i) (λ q. fill_place b sc k f r q c at s))
    opened_same (t.Inst p args m at) c s sc k h = λ i.
        then_with (as_key (values_same args s sc h.0 i)) (λ key. then_with (amount_same m s sc h.1 i) (λ q. fill_instance b sc k p key q c at s))
    opened_same (t.And x y) c s sc k h = λ i.
        then_with (pair_of c) (λ parts. then_with (opened_same x parts.0 s sc k h.0 i) (λ t. opened_same y parts.1 t sc k h.1 i))
    opened_same (t.Implies a x) c s sc k h = λ i.
        then_with (as_truth (value_same a s sc h.0 i)) (λ holds. if holds then opened_same x c s sc k h.1 i else then_with (unit_of c) (λ u. is s))
    opened_same (t.ChooseAssertion a x y) c s sc k h = λ i.
        then_with (as_truth (value_same a s sc h.0 i)) (λ holds. if holds then opened_same x c s sc k h.1 i else opened_same y c s sc k h.2 i)
