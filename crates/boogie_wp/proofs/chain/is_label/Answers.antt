use Rattle.std.proofs.Common.{◌≡◌, Bool, true, false, refl, subst}
use Rattle.vb_base.specs.declared.labels.Label.{Label}
use Rattle.boogie_wp.specs.Labels.{same_label}
use Rattle.boogie_wp.proofs.LabelLaws.{same_label_is, same_label_itself}
use Rattle.boogie_wp.proofs.chain.is_label.Goals as goal

tests_agree : (a b : Label) (p q : Bool) → same_label a b ≡ q → (p ≡ true → a ≡ b) → (a ≡ b → p ≡ true) → p ≡ q
tests_agree a b true true e h g = refl
tests_agree a b true false e h g = let s : same_label a b ≡ true = subst (λ x. same_label a x ≡ true) (h refl) (same_label_itself a) in absurd (cc)
tests_agree a b false true e h g = g (same_label_is a b e)
tests_agree a b false false e h g = refl

pub returns : goal.returns
returns c = tests_agree c.args.a.now c.args.b.now c.same_label.result (same_label c.args.a.now c.args.b.now) refl c.same_label.ensures.0 c.same_label.ensures.1
