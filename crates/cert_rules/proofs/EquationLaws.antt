-- Equations, by the values of their sides.
use Rattle.std.proofs.Common.{◌≡◌, ℕ, Bool as Truth, true, false, List, refl, sym, ap, ◌∙◌}
use Rattle.vb_value.specs.Bound.{Unbounded}
use Rattle.boogie_tree.specs.Equality.{Decides-same_scalar}
use Rattle.boogie_tree.specs.Program.{BType}
use Rattle.boogie_tree.specs.Value.{BScalar, BValue, Bool, same_scalar}
use Rattle.boogie_tree.specs.Values.{IsEnvironment, same_base, base_of_scalar}
use Rattle.boogie_tree.specs.declared.exprs.BOp.TheVariants as op
use Rattle.boogie_meaning.specs.Ends.{End, Is, Over, Wrong}
use Rattle.boogie_meaning.specs.Operators.{binary, equal}
use Rattle.cert_terms.specs.Terms.{IsModel, IsTrueIn}
use Rattle.cert_terms.specs.declared.terms.ClauseLiteral.{ClauseLiteral}
use Rattle.cert_terms.specs.declared.terms.CertificateTerm.{CertificateTerm}
use Rattle.cert_terms.proofs.MeaningLaws.{bin_value}
use Rattle.cert_terms.proofs.LiteralLaws.{truth_value, IsTruthValue}
use Rattle.cert_rules.specs.Reasons.{yes, no, value_of, IsEquation}

-- ---- equations

equal_parts : (v w : BScalar) (s : Truth) → same_base (base_of_scalar v) (base_of_scalar w) ≡ s → (p : Truth) → equal (λ q. q) v w ≡ Is (Bool p) → same_scalar v w ≡ p
equal_parts v w true b p h = let e : equal (λ q. q) v w ≡ Is (Bool (same_scalar v w)) = rw b refl in let g = sym e ∙ h in cc
equal_parts v w false b p h = let e : equal (λ q. q) v w ≡ Wrong = rw b refl in let g = sym e ∙ h in absurd (cc)

-- an equation that has a value has sides that have one
sides : (l r : End BScalar) (p : Truth) → binary Unbounded op.Eq l r ≡ Is (Bool p) → (v : BScalar) × (w : BScalar) × (l ≡ Is v) × (r ≡ Is w) × (same_scalar v w ≡ p)
sides (Is v) (Is w) p h = (v, w, refl, refl, equal_parts v w (same_base (base_of_scalar v) (base_of_scalar w)) refl p h)
sides (Is v) Over p h = absurd (cc)
sides (Is v) Wrong p h = absurd (cc)
sides Over r p h = absurd (cc)
sides Wrong r p h = absurd (cc)

-- both sides have one value, or two
pub data Compared (values : List BValue) (n : ℕ) (a b : ClauseLiteral) : Type 0 where
  same : {v : BScalar} → value_of values a ≡ Is v → value_of values b ≡ Is v → IsTrueIn values (yes n) → Compared values n a b
  other : {v w : BScalar} → value_of values a ≡ Is v → value_of values b ≡ Is w → (v ≡ w → ⊥) → value_of values (yes n) ≡ Is (Bool false) → IsTrueIn values (no n) → Compared values n a b

module _ (terms : List CertificateTerm) (types : List BType) (values : List BValue) (typed : IsEnvironment types values) (model : IsModel terms values) where
  pub compared : (n : ℕ) (a b : ClauseLiteral) → IsEquation terms types n a b → Compared values n a b
  compared n a b q =
      let t = truth_value values types typed (yes n) q.is_truth in
      let s = sides (value_of values a) (value_of values b) t.0 (sym (bin_value terms values model n op.Eq a b q.is_there) ∙ t.1.value) in
      by t.0 t.1 s.0 s.1 s.2 s.3 s.4
    where
      by : (p : Truth) → IsTruthValue values (yes n) p → (v w : BScalar) → value_of values a ≡ Is v → value_of values b ≡ Is w → same_scalar v w ≡ p → Compared values n a b
      by true t v w l r h = let d = (Decides-same_scalar v w).0 h in same l (r ∙ ap Is (sym d)) t.value
      by false t v w l r h = other l r (λ e. differ ((Decides-same_scalar v w).1 e) h) t.value t.other
        where
          differ : {x : Truth} → x ≡ true → x ≡ false → ⊥
          differ e g = absurd (cc)
