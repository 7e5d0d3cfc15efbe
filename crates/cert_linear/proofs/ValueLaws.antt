-- The numbers of names by the numbers of their terms' parts.
use Rattle.std.proofs.Common.{◌≡◌, ℕ, Bool as Truth, true, false, Some, List, slice_get, refl, sym, ap, subst, ◌∙◌, ℤ, neg_ℤ, if◌then◌else◌}
use Rattle.vb_value.specs.Fraction.{Fraction, whole, none, is_none, sum, difference, product, quotient}
use Rattle.boogie_tree.specs.Program.{BType}
use Rattle.boogie_tree.specs.Value.{BScalar, Int, Bool, Ref, Real, Snap, BValue}
use Rattle.boogie_tree.specs.Values.{IsEnvironment, FitsScalar, plain_type}
use Rattle.boogie_tree.specs.declared.exprs.BBase.TheVariants as base
use Rattle.boogie_tree.specs.declared.exprs.BOp.{BOp}
use Rattle.boogie_tree.specs.declared.exprs.BOp.TheVariants as op
use Rattle.boogie_meaning.specs.Ends.{End, Is, Over, Wrong, then_with}
use Rattle.boogie_meaning.specs.Operators.{negation}
use Rattle.boogie_formula.specs.Formula as f
use Rattle.cert_terms.specs.declared.terms.CertificateTerm.{CertificateTerm}
use Rattle.cert_terms.specs.declared.terms.CertificateTerm.TheVariants as term
use Rattle.cert_terms.specs.Terms.{IsModel}
use Rattle.cert_terms.proofs.ValueLaws.{fvalue_there}
use Rattle.cert_terms.proofs.LiteralLaws.{typed_name, value_name}
use Rattle.cert_terms.proofs.MeaningLaws.{of, bin_value, neg_value, to_real_value, int_value, real_value}
use Rattle.cert_linear.specs.Numbers.{number_of, number_at, number_in}
use Rattle.cert_linear.specs.Rows.{number_type, named}
use Rattle.cert_linear.proofs.NumberLaws.{IsNumber, int, real, number-sum, number-difference, number-product, number-quotient, number-negative, number-real}

-- ---- what the end of an operator tells of its operands

module _ (u : BScalar) where
  pub from_one : (go : BScalar → End BScalar) (e : End BScalar) → then_with e go ≡ Is u → (v : BScalar) × (e ≡ Is v) × (go v ≡ Is u)
  from_one go (Is v) h = (v, refl, h)
  from_one go Over h = absurd (cc)
  from_one go Wrong h = absurd (cc)

  pub from_two : (go : BScalar → BScalar → End BScalar) (e g : End BScalar) → then_with e (λ v. then_with g (λ w. go v w)) ≡ Is u → (v : BScalar) × (w : BScalar) × (e ≡ Is v) × (g ≡ Is w) × (go v w ≡ Is u)
  from_two go (Is v) (Is w) h = (v, w, refl, refl, h)
  from_two go (Is v) Over h = absurd (cc)
  from_two go (Is v) Wrong h = absurd (cc)
  from_two go Over g h = absurd (cc)
  from_two go Wrong g h = absurd (cc)

pub not_true : (e : End BScalar) → then_with e negation ≡ Is (Bool true) → e ≡ Is (Bool false)
not_true (Is (Bool false)) h = refl
not_true (Is (Bool true)) h = absurd (apart h)
  where
    apart : Is (Bool false) ≡ Is (Bool true) → ⊥
    apart e = absurd (cc)
not_true (Is (Int x)) h = absurd (cc)
not_true (Is (Ref x)) h = absurd (cc)
not_true (Is (Real x)) h = absurd (cc)
not_true (Is (Snap x)) h = absurd (cc)
not_true Over h = absurd (cc)
not_true Wrong h = absurd (cc)

-- ---- numbers of names

fits_number : (p : Truth) (v : BScalar) → FitsScalar (number_type p) v → IsNumber v
fits_number p (Int n) h = int
fits_number p (Real n) h = real
fits_number true (Bool x) h = let e : base.Bool ≡ base.Int = h.typed in absurd (cc)
fits_number true (Ref x) h = let e : base.Ref ≡ base.Int = h.typed in absurd (cc)
fits_number true (Snap x) h = let e : base.Snap ≡ base.Int = h.typed in absurd (cc)
fits_number false (Bool x) h = let e : base.Bool ≡ base.Real = h.typed in absurd (cc)
fits_number false (Ref x) h = let e : base.Ref ≡ base.Real = h.typed in absurd (cc)
fits_number false (Snap x) h = let e : base.Snap ≡ base.Real = h.typed in absurd (cc)

is_same : {v w : BScalar} → Is v ≡ Is w → v ≡ w
is_same {v} h = ap (λ o. or_else o v) h
  where
    or_else : End BScalar → BScalar → BScalar
    or_else (Is z) d = z
    or_else _ d = d

module _ (types : List BType) (values : List BValue) (typed : IsEnvironment types values) where
  -- the name of a number has a value of its type
  pub numeric : (n : ℕ) (p : Truth) → slice_get types n ≡ Some (plain_type (number_type p)) → (v : BScalar) × (of n values ≡ Is v) × FitsScalar (number_type p) v
  numeric n p h = fvalue_there types values typed (f.Var n) (number_type p) (typed_name types n (number_type p) h)

  pub numeric_fits : (n : ℕ) (p : Truth) (v : BScalar) → slice_get types n ≡ Some (plain_type (number_type p)) → of n values ≡ Is v → FitsScalar (number_type p) v
  numeric_fits n p v h e =
      let w = numeric n p h in
      let same : w.0 ≡ v = is_same (sym w.1 ∙ e) in
      subst (FitsScalar (number_type p)) same w.2

  pub numeric_is : (n : ℕ) (p : Truth) (v : BScalar) → slice_get types n ≡ Some (plain_type (number_type p)) → of n values ≡ Is v → IsNumber v
  numeric_is n p v h e = fits_number p v (numeric_fits n p v h e)

pub number_is : (values : List BValue) (n : ℕ) (v : BScalar) → of n values ≡ Is v → number_in values n ≡ number_of v
number_is values n v h = ap number_at (value_name values n v h)

module _ (terms : List CertificateTerm) (types : List BType) (values : List BValue) (typed : IsEnvironment types values) (model : IsModel terms values) (n : ℕ) where
  pub number_in-int : (k : ℤ) → slice_get terms n ≡ Some (term.Int k) → number_in values n ≡ whole k
  number_in-int k h = number_is values n (Int k) (int_value terms values model n k h)

  pub number_in-real : (k : ℤ) → slice_get terms n ≡ Some (term.Real k) → number_in values n ≡ whole k
  number_in-real k h = number_is values n (Real (whole k)) (real_value terms values model n k h)

  module _ (p : Truth) (number : slice_get types n ≡ Some (plain_type (number_type p))) where
    -- an operator of two numbers
    by_two : (o : BOp) (op_of : BScalar → BScalar → End BScalar) (number_op : Fraction → Fraction → Fraction) (a b : ℕ) →
        ((u v w : BScalar) → op_of v w ≡ Is u → number_of u ≡ number_op (number_of v) (number_of w)) →
        of n values ≡ then_with (of a values) (λ v. then_with (of b values) (λ w. op_of v w)) →
        number_in values n ≡ number_op (number_in values a) (number_in values b)
    by_two o op_of number_op a b law e =
        let u = numeric types values typed n p number in
        let parts = from_two u.0 op_of (of a values) (of b values) (sym e ∙ u.1) in
        number_is values n u.0 u.1 ∙ law u.0 parts.0 parts.1 parts.4 ∙ sym (ap (λ q. number_op q (number_in values b)) (number_is values a parts.0 parts.2) ∙ ap (number_op (number_of parts.0)) (number_is values b parts.1 parts.3))

    pub number_in-sum : (a b : ℕ) → slice_get terms n ≡ Some (term.Bin op.Add (named a) (named b)) → number_in values n ≡ sum (number_in values a) (number_in values b)
    number_in-sum a b h = by_two op.Add _ sum a b (λ u v w. number-sum v w u) (bin_value terms values model n op.Add (named a) (named b) h)

    pub number_in-difference : (a b : ℕ) → slice_get terms n ≡ Some (term.Bin op.Sub (named a) (named b)) → number_in values n ≡ difference (number_in values a) (number_in values b)
    number_in-difference a b h = by_two op.Sub _ difference a b (λ u v w. number-difference v w u) (bin_value terms values model n op.Sub (named a) (named b) h)

    pub number_in-product : (a b : ℕ) → slice_get terms n ≡ Some (term.Bin op.Mul (named a) (named b)) → number_in values n ≡ product (number_in values a) (number_in values b)
    number_in-product a b h = by_two op.Mul _ product a b (λ u v w. number-product v w u) (bin_value terms values model n op.Mul (named a) (named b) h)

    pub number_in-quotient : (a b : ℕ) → slice_get terms n ≡ Some (term.Bin op.Divide (named a) (named b)) → number_in values n ≡ (if is_none (number_in values b) then none else quotient (number_in values a) (number_in values b))
    number_in-quotient a b h = by_two op.Divide _ (λ x y. if is_none y then none else quotient x y) a b (λ u v w. number-quotient v w u) (bin_value terms values model n op.Divide (named a) (named b) h)

    pub number_in-neg : (a : ℕ) → slice_get terms n ≡ Some (term.Neg (named a)) → number_in values n ≡ record { num = neg_ℤ (number_in values a).num; den = (number_in values a).den }
    number_in-neg a h =
        let u = numeric types values typed n p number in
        let part = from_one u.0 _ (of a values) (sym (neg_value terms values model n (named a) h) ∙ u.1) in
        number_is values n u.0 u.1 ∙ number-negative part.0 u.0 part.2 ∙ sym (ap (λ q. record { num = neg_ℤ q.num; den = q.den }) (number_is values a part.0 part.1))

    pub number_in-to_real : (a : ℕ) → slice_get terms n ≡ Some (term.ToReal (named a)) → number_in values n ≡ number_in values a
    number_in-to_real a h =
        let u = numeric types values typed n p number in
        let part = from_one u.0 _ (of a values) (sym (to_real_value terms values model n (named a) h) ∙ u.1) in
        number_is values n u.0 u.1 ∙ number-real part.0 u.0 part.2 ∙ sym (number_is values a part.0 part.1)
