-- What is read in two states, of which one lies under the other: amounts that are held, and typed expressions in two scenes that agree
-- on what their context sees.
use Rattle.std.proofs.Common.{◌≡◌, refl, ℕ, Option, Some, None, List, []}
use Rattle.vb_value.specs.Bound.{Unbounded}
use Rattle.vb_value.specs.Fraction.{Fraction, IsReduced, IsProperFraction}
use Rattle.vb_value.specs.declared.values.Ty.{Ty}
use Rattle.vb_value.specs.declared.values.Ty.TheVariants as ty
use Rattle.viper_core.specs.Expr as t
use Rattle.viper_core.specs.Formed.{IsTypedProgram}
use Rattle.viper_core.specs.Typing.{Context, HasType, HaveTypes}
use Rattle.viper_core.proofs.LiteralLaws.{typed_literals, literals_proper}
use Rattle.viper_state.specs.Event.{Event}
use Rattle.viper_state.specs.Run.{Scene}
use Rattle.viper_state.specs.State.{State}
use Rattle.viper_meaning.specs.Assertions.{place_in, instance_in}
use Rattle.viper_meaning.specs.Ends.{Evaluated, is, found}
use Rattle.viper_meaning.specs.Kept as kept
use Rattle.viper_meaning.specs.Kept.{Keeps}
use Rattle.viper_meaning.specs.Operators.{truth_of, perm_of, ref_of}
use Rattle.viper_meaning.specs.Places.{key_of}
use Rattle.viper_meaning.specs.Resource.{Resource, Place, Instance, held_at}
use Rattle.viper_meaning.specs.Value.{truth_in, perm_in, ref_in, key_in}
use Rattle.viper_meaning.proofs.AgreeLaws.{blocked, IsSame, is_agrees, then_alike}
use Rattle.viper_meaning.proofs.MoreLaws.{ScenesAgree, typed_value_two, typed_values_two}
use Rattle.viper_meaning.proofs.OpenedLaws.{AreClose}
use Rattle.viper_meaning.proofs.ReadLaws.{perm_proper}
use Rattle.viper_meaning.proofs.UnderLaws.{Rest, Under, FramedPart}

-- what is held in both
pub found_two : {F : Rest} {s w : State} (x : Resource) → Under F s w → AreClose (λ a b. (held_at s x ≡ Some a) × (held_at w x ≡ Some b)) (found (held_at s x)) (found (held_at w x))
found_two {F} {s} {w} x h = by (held_at s x) (held_at w x) refl refl (h.held x)
  where
    by : (o p : Option Fraction) → held_at s x ≡ o → held_at w x ≡ p → FramedPart x (F.held x) [] o p → AreClose (λ a b. (held_at s x ≡ Some a) × (held_at w x ≡ Some b)) (found o) (found p)
    by (Some a) (Some b) e g q = is_agrees (e, g)
    by None None e g q = blocked
    by (Some a) None e g q = absurd q
    by None (Some b) e g q = absurd q

module _ (F : Rest) (c : Context) (typed : IsTypedProgram c.program) (s w : State) (sc sd : Scene) (h : Under F s w) (g : ScenesAgree c sc sd) where
  pub truth_two : {e : t.Expr} → HasType c e ty.Bool → AreClose IsSame (truth_in Unbounded e s sc) (truth_in Unbounded e w sd)
  truth_two i = then_alike truth_of (typed_value_two F c typed s w sc sd h g i)

  pub perm_two : {e : t.Expr} → HasType c e ty.Perm → AreClose IsSame (perm_in Unbounded e s sc) (perm_in Unbounded e w sd)
  perm_two i = then_alike perm_of (typed_value_two F c typed s w sc sd h g i)

  pub ref_two : {e : t.Expr} → HasType c e ty.Ref → AreClose IsSame (ref_in Unbounded e s sc) (ref_in Unbounded e w sd)
  ref_two i = then_alike ref_of (typed_value_two F c typed s w sc sd h g i)

  pub key_two : {es : t.Exprs} {us : List Ty} → HaveTypes c es us → AreClose IsSame (key_in Unbounded es s sc) (key_in Unbounded es w sd)
  key_two i = then_alike (λ vs. found (key_of vs)) (typed_values_two F c typed s w sc sd h g i)

  pub place_two : {e : t.Expr} (f : ℕ) → HasType c e ty.Ref → AreClose IsSame (place_in Unbounded e f s sc) (place_in Unbounded e f w sd)
  place_two f i = then_alike (λ r. is (Place f r)) (ref_two i)

  pub instance_two : {es : t.Exprs} {us : List Ty} (p : ℕ) → HaveTypes c es us → AreClose IsSame (instance_in Unbounded p es s sc) (instance_in Unbounded p es w sd)
  instance_two p i = then_alike (λ key. is (Instance p key)) (key_two i)

  pub perm_reduced : {e : t.Expr} → HasType c e ty.Perm → Keeps (λ x. Unit {0}) IsReduced (perm_in Unbounded e s sc)
  perm_reduced {e} i = by (perm_in Unbounded e s sc) (perm_proper e s sc (typed_literals _ _ (literals_proper Unbounded) c typed i) h.less.whole.proper g.proper)
    where
      by : {E : Event → Type 0} (f : Evaluated Fraction) → Keeps E (IsProperFraction Unbounded) f → Keeps (λ x. Unit {0}) IsReduced f
      by f (kept.value all p) = kept.value (λ k d within. tt) p.reduced
      by f (kept.failure all) = kept.failure (λ k d within. tt)
      by f (kept.blocked all) = kept.blocked (λ k d within. tt)
      by f (kept.over all) = kept.over (λ k d within. tt)
