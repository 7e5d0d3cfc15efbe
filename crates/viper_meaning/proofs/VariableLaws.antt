-- An expression looks at no variables but its own.
use Rattle.std.proofs.Common.{◌≡◌, refl, ap, List, ◌∷◌, if◌then◌else◌}
use Rattle.vb_value.specs.Bound.{Bound}
use Rattle.vb_value.specs.declared.values.Value.{Value}
use Rattle.viper_core.specs.Expr as t
use Rattle.viper_state.specs.State.{State, content_at}
use Rattle.viper_state.specs.Run.{Scene, with_variables}
use Rattle.viper_meaning.specs.Ends.{is, then_with, found}
use Rattle.viper_meaning.specs.Operators.{class_of, negative, negation}
use Rattle.viper_meaning.specs.Places.{read_field, key_of, taken}
use Rattle.viper_meaning.specs.Value.{as_truth, as_perm, as_ref, value, values, opened}
use Rattle.viper_meaning.specs.Variables.{AgreeOn, AgreeOnAll}
use Rattle.viper_meaning.proofs.SceneLaws.{in_class_same}

module _ (b : Bound) (ws : List Value) where
  mutual
    pub value_agrees : (e : t.Expr) (s : State) (sc : Scene) → AgreeOn ws sc.store e → value b e s (with_variables ws sc) ≡ value b e s sc
    value_agrees (t.Var x) s sc h = ap found h
    value_agrees (t.Int n) s sc h = refl
    value_agrees (t.Bool a) s sc h = refl
    value_agrees t.Null s sc h = refl
    value_agrees (t.Part q) s sc h = refl
    value_agrees (t.Neg a) s sc h = λ i. then_with (value_agrees a s sc h i) negative
    value_agrees (t.Not a) s sc h = λ i. then_with (value_agrees a s sc h i) negation
    value_agrees (t.Bin o x y at) s sc h = in_class_same b ws sc.old (class_of o) sc o at (value_agrees x s sc h.0) (value_agrees y s sc h.1)
    value_agrees (t.Choose a x y) s sc h = λ i. then_with (as_truth (value_agrees a s sc h.0 i)) (λ holds. if holds then value_agrees x s sc h.1 i else value_agrees y s sc h.2 i)
    value_agrees (t.Field a f at) s sc h = λ i. then_with (as_ref (value_agrees a s sc h i)) (read_field sc s f at)
    value_agrees (t.Old a) s sc h = value_agrees a sc.old sc h
    value_agrees (t.Unfolding (t.opened p args amount body inner at)) s sc h = λ i.
        then_with (values_agree args s sc h.0 i) (λ vs. then_with (as_perm (value_agrees amount s sc h.1 i)) (λ q. then_with (found (key_of vs)) (λ key.
        then_with (taken b sc s p key q at) (λ less. then_with (found (content_at s p key)) (λ c.
        then_with (opened b body c less (with_variables vs sc) q) (λ copy. value_agrees inner copy sc h.2 i))))))

    pub values_agree : (es : t.Exprs) (s : State) (sc : Scene) → AgreeOnAll ws sc.store es → values b es s (with_variables ws sc) ≡ values b es s sc
    values_agree t.none s sc h = refl
    values_agree (t.more a rest) s sc h = λ i. then_with (value_agrees a s sc h.0 i) (λ v. then_with (values_agree rest s sc h.1 i) (λ vs. is (v ∷ vs)))
