-- Operators of numbers, for ints and reals alike: as fractions in lowest terms.
use Rattle.std.proofs.Common.{◌≡◌, Bool as Truth, true, false, sym, ap, ◌∙◌, ℤ, pos, neg_ℤ, ◌+ℤ◌, ◌-ℤ◌, ◌*ℤ◌, if◌then◌else◌}
use Rattle.std.specs.Ordering.{int_cmp, is_le}
use Rattle.std.proofs.lemmas.Bool.Decides.{Decides-int_eq}
use Rattle.vb_value.specs.Bound.{Unbounded}
use Rattle.vb_value.specs.Fraction.{Fraction, reduced, whole, none, is_none, sum, difference, product, quotient, order}
use Rattle.vb_value.specs.Equality.{Decides-fraction_eq}
use Rattle.vb_value.proofs.IntLaws.{*ℤ_one}
use Rattle.vb_value.proofs.FractionLaws.{IsReduced-whole, reduced_self}
use Rattle.boogie_tree.specs.Value.{BScalar, Int, Bool, Ref, Real, Snap}
use Rattle.boogie_meaning.specs.Ends.{End, Is}
use Rattle.boogie_meaning.specs.Operators.{sum_of, difference_of, product_of, quotient_of, compared, equal, negative, real_from}
use Rattle.cert_linear.specs.Numbers.{number_of}

is_same : {X : Type 0} {x y : X} → Is x ≡ Is y → y ≡ x
is_same {x = x} h = sym (ap (λ o. or_else o x) h)
  where
    or_else : {X : Type 0} → End X → X → X
    or_else (Is z) d = z
    or_else _ d = d

-- ---- ints as fractions

whole_reduced : (n : ℤ) → reduced n 1 ≡ whole n
whole_reduced n = reduced_self (whole n) (IsReduced-whole n)

whole-sum : (x y : ℤ) → whole (x +ℤ y) ≡ sum (whole x) (whole y)
whole-sum x y = sym (ap (λ z. reduced z 1) (ap (λ z. z +ℤ y *ℤ pos 1) (*ℤ_one x) ∙ ap (λ z. x +ℤ z) (*ℤ_one y)) ∙ whole_reduced (x +ℤ y))

whole-difference : (x y : ℤ) → whole (x -ℤ y) ≡ difference (whole x) (whole y)
whole-difference x y = sym (ap (λ z. reduced z 1) (ap (λ z. z -ℤ y *ℤ pos 1) (*ℤ_one x) ∙ ap (λ z. x -ℤ z) (*ℤ_one y)) ∙ whole_reduced (x -ℤ y))

whole-product : (x y : ℤ) → whole (x *ℤ y) ≡ product (whole x) (whole y)
whole-product x y = sym (whole_reduced (x *ℤ y))

order-whole : (x y : ℤ) → order (whole x) (whole y) ≡ int_cmp x y
order-whole x y = ap (λ z. int_cmp z (y *ℤ pos 1)) (*ℤ_one x) ∙ ap (int_cmp x) (*ℤ_one y)

-- ---- operators

pub number-sum : (v w u : BScalar) → sum_of Unbounded v w ≡ Is u → number_of u ≡ sum (number_of v) (number_of w)
number-sum (Int x) (Int y) u h = ap number_of (is_same h) ∙ whole-sum x y
number-sum (Real p) (Real q) u h = ap number_of (is_same h)
number-sum _ _ u h = absurd (cc)

pub number-difference : (v w u : BScalar) → difference_of Unbounded v w ≡ Is u → number_of u ≡ difference (number_of v) (number_of w)
number-difference (Int x) (Int y) u h = ap number_of (is_same h) ∙ whole-difference x y
number-difference (Real p) (Real q) u h = ap number_of (is_same h)
number-difference _ _ u h = absurd (cc)

pub number-product : (v w u : BScalar) → product_of Unbounded v w ≡ Is u → number_of u ≡ product (number_of v) (number_of w)
number-product (Int x) (Int y) u h = ap number_of (is_same h) ∙ whole-product x y
number-product (Real p) (Real q) u h = ap number_of (is_same h)
number-product _ _ u h = absurd (cc)

pub number-quotient : (v w u : BScalar) → quotient_of Unbounded v w ≡ Is u → number_of u ≡ (if is_none (number_of w) then none else quotient (number_of v) (number_of w))
number-quotient (Real p) (Real q) u h = by (is_none q) h
  where
    by : (z : Truth) → (if z then Is (Real none) else Is (Real (quotient p q))) ≡ Is u → number_of u ≡ (if z then none else quotient p q)
    by true e = ap number_of (is_same e)
    by false e = ap number_of (is_same e)
number-quotient _ _ u h = absurd (cc)

pub number-negative : (v u : BScalar) → negative v ≡ Is u → number_of u ≡ record { num = neg_ℤ (number_of v).num; den = (number_of v).den }
number-negative (Int x) u h = ap number_of (is_same h)
number-negative (Real p) u h = ap number_of (is_same h)
number-negative _ u h = absurd (cc)

pub number-real : (v u : BScalar) → real_from v ≡ Is u → number_of u ≡ number_of v
number-real (Int x) u h = ap number_of (is_same h)
number-real _ u h = absurd (cc)

truth_same : {p q : Truth} → Is (Bool p) ≡ Is (Bool q) → p ≡ q
truth_same {p} h = ap (λ o. truth o p) h
  where
    truth : End BScalar → Truth → Truth
    truth (Is (Bool z)) d = z
    truth _ d = d

pub number-compared : (v w : BScalar) (p : Truth) → compared Unbounded is_le v w ≡ Is (Bool p) → is_le (order (number_of v) (number_of w)) ≡ p
number-compared (Int x) (Int y) p h = ap is_le (order-whole x y) ∙ truth_same h
number-compared (Real x) (Real y) p h = truth_same h
number-compared _ _ p h = absurd (cc)

-- ---- equality

-- a number
pub data IsNumber : BScalar → Type 0 where
  int : {n : ℤ} → IsNumber (Int n)
  real : {q : Fraction} → IsNumber (Real q)

pub number-equal : (v w : BScalar) → IsNumber v → equal (λ p. p) v w ≡ Is (Bool true) → number_of v ≡ number_of w
number-equal (Int x) (Int y) n h = ap whole ((Decides-int_eq x y).0 (truth_same h))
number-equal (Real x) (Real y) n h = (Decides-fraction_eq x y).0 (truth_same h)
number-equal (Int x) _ n h = absurd (cc)
number-equal (Real x) _ n h = absurd (cc)
number-equal (Bool x) _ n h = elim n [ ]
number-equal (Ref x) _ n h = elim n [ ]
number-equal (Snap x) _ n h = elim n [ ]

pub number-apart : (v w : BScalar) → IsNumber v → equal (λ p. p) v w ≡ Is (Bool false) → number_of v ≡ number_of w → ⊥
number-apart (Int x) (Int y) n h e = let t = (Decides-int_eq x y).1 (ap (λ q. q.num) e) in let f = truth_same h in let g : true ≡ false = sym t ∙ f in absurd (cc)
number-apart (Real x) (Real y) n h e = let t = (Decides-fraction_eq x y).1 e in let f = truth_same h in let g : true ≡ false = sym t ∙ f in absurd (cc)
number-apart (Int x) _ n h e = absurd (cc)
number-apart (Real x) _ n h e = absurd (cc)
number-apart (Bool x) _ n h e = elim n [ ]
number-apart (Ref x) _ n h e = elim n [ ]
number-apart (Snap x) _ n h e = elim n [ ]
