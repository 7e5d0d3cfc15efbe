-- Operators look at nothing of a scene but the step that is running.
use Rattle.std.proofs.Common.{◌≡◌, refl, ℤ, List}
use Rattle.std.specs.Int.{int_div_euclid, int_rem_euclid}
use Rattle.vb_base.specs.declared.places.Pos.{Pos}
use Rattle.vb_value.specs.Bound.{Bound}
use Rattle.vb_value.specs.declared.values.Value.{Value}
use Rattle.vb_value.specs.declared.values.Value.TheVariants.{Int, Perm}
use Rattle.viper_core.specs.declared.exprs.Op.{Op}
use Rattle.viper_core.specs.declared.exprs.Op.TheVariants as op
use Rattle.viper_state.specs.State.{State}
use Rattle.viper_state.specs.Run.{Scene}
use Rattle.viper_meaning.specs.Ends.{Evaluated, then_with}
use Rattle.viper_meaning.specs.Operators.{Class, Lazy, Division, Plain, quotient_of, euclidean, divided, in_class}

module _ (b : Bound) (vs : List Value) (o : State) where
  quotient_same : (sc : Scene) (v w : Value) (at : Pos) → quotient_of b (record { store = vs; old = o; at = sc.at }) v w at ≡ quotient_of b sc v w at
  quotient_same sc (Int x) (Int n) at = refl
  quotient_same sc (Perm p) (Int n) at = refl
  quotient_same sc (Int x) _ at = refl
  quotient_same sc (Perm p) _ at = refl
  quotient_same sc _ _ at = refl

  euclidean_same : (sc : Scene) (f : ℤ → ℤ → ℤ) (v w : Value) (at : Pos) → euclidean (record { store = vs; old = o; at = sc.at }) f v w at ≡ euclidean sc f v w at
  euclidean_same sc f (Int x) (Int d) at = refl
  euclidean_same sc f (Int x) _ at = refl
  euclidean_same sc f _ _ at = refl

  divided_same : (sc : Scene) (p : Op) (v w : Value) (at : Pos) → divided b (record { store = vs; old = o; at = sc.at }) p v w at ≡ divided b sc p v w at
  divided_same sc op.Divide v w at = quotient_same sc v w at
  divided_same sc op.IntDiv v w at = euclidean_same sc int_div_euclid v w at
  divided_same sc op.IntMod v w at = euclidean_same sc int_rem_euclid v w at
  divided_same sc _ v w at = refl

  pub in_class_same : (c : Class) (sc : Scene) (p : Op) {l m r q : Evaluated Value} (at : Pos) → l ≡ m → r ≡ q → in_class c b (record { store = vs; old = o; at = sc.at }) p l r at ≡ in_class c b sc p m q at
  in_class_same Lazy sc p at h g = λ i. in_class Lazy b sc p (h i) (g i) at
  in_class_same Division sc p at h g = λ i. then_with (h i) (λ v. then_with (g i) (λ w. divided_same sc p v w at i))
  in_class_same Plain sc p at h g = λ i. in_class Plain b sc p (h i) (g i) at
