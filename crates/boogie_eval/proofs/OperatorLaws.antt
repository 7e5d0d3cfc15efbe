-- Operators in steps.
use Rattle.std.proofs.Common.{◌≡◌, refl, ap, ◌∙◌, Bool as Truth, true, false, if◌then◌else◌}
use Rattle.vb_value.specs.Bound.{Bounded}
use Rattle.boogie_tree.specs.Value.{BScalar}
use Rattle.boogie_tree.specs.declared.exprs.BOp.{BOp}
use Rattle.boogie_meaning.specs.Ends.{End, Is, Over, Wrong, then_with}
use Rattle.boogie_meaning.specs.Operators.{truth_of, as_truth, as_bool, is_lazy, settled, settled_or, plain, binary}
use Rattle.boogie_eval.proofs.AnswerLaws.{then_then}

-- ---- where a truth is asked for

pub truth_again : (e : End Truth) → as_truth (as_bool e) ≡ e
truth_again (Is p) = refl
truth_again Over = refl
truth_again Wrong = refl

module _ (o : BOp) (left right : End BScalar) where
  -- by whether the operator is lazy
  abbrev Binary : Truth → End BScalar
  Binary t = if t then then_with (as_truth left) (λ p. settled_or (settled o p) right) else then_with left (λ v. then_with right (λ w. plain Bounded o v w))

  pub lazy_truth : is_lazy o ≡ true → as_truth (binary Bounded o left right) ≡ then_with (as_truth left) (λ p. as_truth (settled_or (settled o p) right))
  lazy_truth lazy = ap (λ t. as_truth (Binary t)) lazy ∙ then_then (as_truth left) (λ p. settled_or (settled o p) right) truth_of

  pub plain_binary : is_lazy o ≡ false → binary Bounded o left right ≡ then_with left (λ v. then_with right (λ w. plain Bounded o v w))
  plain_binary looks = ap Binary looks

  pub plain_truth : is_lazy o ≡ false → as_truth (binary Bounded o left right) ≡ then_with left (λ v. then_with right (λ w. as_truth (plain Bounded o v w)))
  plain_truth looks =
      ap as_truth (plain_binary looks) ∙ then_then left (λ v. then_with right (λ w. plain Bounded o v w)) truth_of ∙
      (λ i. then_with left (λ v. then_then right (λ w. plain Bounded o v w) truth_of i))
