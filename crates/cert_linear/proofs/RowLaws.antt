-- The rows of literals that are false, and of terms, hold where names have the values of a model.
use Rattle.std.proofs.Common.{◌≡◌, ◌≢◌, ℕ, ◌+◌, ◌*◌, ◌/◌, ◌<◌, ◌≤◌, Bool as Truth, true, false, Some, List, slice_get, refl, sym, ap, subst, ◌∙◌, arith, ℤ, pos, negsuc, neg_ℤ, ◌+ℤ◌, ◌-ℤ◌, ◌*ℤ◌, ◌≤ℤ◌, ◌<ℤ◌, if◌then◌else◌}
use Rattle.std.proofs.lemmas.Int.{ints}
use Rattle.std.proofs.Math.Nat.{mul-le-mul_right}
use Rattle.std.specs.Ordering.{is_le}
use Rattle.boogie_meaning.proofs.TypedLaws.{as_int}
use borrow.Author.Differences.{up, down}
use Rattle.vb_value.specs.Bound.{Unbounded}
use Rattle.vb_value.specs.Fraction.{Fraction, whole, none, is_none, product, quotient, order}
use Rattle.vb_value.proofs.IntLaws.{neg_ℤ-*ℤ}
use Rattle.vb_value.proofs.OperationLaws.{IsRatio, product_comm}
use Rattle.boogie_tree.specs.Program.{BType}
use Rattle.boogie_tree.specs.Value.{BScalar, Int, Bool, BValue}
use Rattle.boogie_tree.specs.Values.{IsEnvironment, plain_type}
use Rattle.boogie_tree.specs.declared.exprs.BBase.TheVariants as base
use Rattle.boogie_tree.specs.declared.exprs.BOp.TheVariants as op
use Rattle.boogie_meaning.specs.Ends.{End, Is}
use Rattle.boogie_meaning.specs.Operators.{equal, compared}
use Rattle.cert_terms.specs.declared.terms.CertificateTerm.{CertificateTerm}
use Rattle.cert_terms.specs.declared.terms.CertificateTerm.TheVariants as term
use Rattle.cert_terms.specs.Terms.{IsModel, IsTrueIn}
use Rattle.cert_terms.specs.Literals.{turned}
use Rattle.cert_terms.proofs.MeaningLaws.{of, bin_value}
use Rattle.cert_linear.specs.declared.rows.SumSign.TheVariants as sign
use Rattle.cert_linear.specs.Numbers.{number_of, number_in, common, parts, HoldsAt}
use Rattle.cert_linear.specs.Rows.{number_type, named, times, two, three, equation_row, order_row}
use Rattle.cert_linear.proofs.NumberLaws.{number-equal, number-apart, number-compared}
use Rattle.cert_linear.proofs.PartLaws.{number_reduced, parts_are}
use Rattle.cert_linear.proofs.RatioLaws.{parts-sum, parts-difference, parts-product, parts-quotient, parts-neg, parts-whole, fractions_same, parts_at_most, parts_above, above_from}
use Rattle.cert_linear.proofs.ValueLaws.{from_two, not_true, numeric_fits, numeric_is, number_is, number_in-sum, number_in-difference, number_in-product, number_in-quotient, number_in-neg, number_in-to_real}

-- ---- differences that stand to 0

module _ (x y z d : ℤ) where
  stands_equal : x ≡ y → pos 1 *ℤ x +ℤ (negsuc 0 *ℤ y +ℤ (pos 0 *ℤ z +ℤ pos 0 *ℤ d)) ≡ pos 0
  stands_equal h = omega (arith, ints)

  stands_other : x ≢ y → pos 1 *ℤ x +ℤ (negsuc 0 *ℤ y +ℤ (pos 0 *ℤ z +ℤ pos 0 *ℤ d)) ≢ pos 0
  stands_other h e = h (omega (arith, ints))

  stands_at_most : x ≤ℤ y → (pos 1 *ℤ x +ℤ (negsuc 0 *ℤ y +ℤ (pos 0 *ℤ z +ℤ pos 0 *ℤ d))) ≤ℤ pos 0
  stands_at_most h = omega (arith, ints)

  stands_below : x <ℤ y → (pos 1 *ℤ x +ℤ (negsuc 0 *ℤ y +ℤ (pos 0 *ℤ z +ℤ pos 0 *ℤ d))) <ℤ pos 0
  stands_below h = omega (arith, ints)

  stands_apart : (x +ℤ d) ≤ℤ y → (pos 1 *ℤ x +ℤ (negsuc 0 *ℤ y +ℤ (pos 0 *ℤ z +ℤ pos 1 *ℤ d))) ≤ℤ pos 0
  stands_apart h = omega (arith, ints)

-- an int above another is above it by 1
more_by_one : (i j : ℤ) (d : ℕ) → j <ℤ i → (j *ℤ pos d +ℤ pos d) ≤ℤ (i *ℤ pos d)
more_by_one i j d h =
    let step : up j + down i + 1 ≤ up i + down j = omega (arith, ints) in
    let more : (up j + down i + 1) * d ≤ (up i + down j) * d = mul-le-mul_right d step in
    omega (arith, ints, more)

module _ (terms : List CertificateTerm) (types : List BType) (values : List BValue) (typed : IsEnvironment types values) (model : IsModel terms values) where
  x_of : ℕ → ℤ
  x_of = parts values

  ratio_of : (n : ℕ) → IsRatio (number_in values n) (parts values n) (common values)
  ratio_of n = parts_are types values typed n

  -- ---- literals that are false

  equal_parts : (a b : ℕ) → number_in values a ≡ number_in values b → parts values a ≡ parts values b
  equal_parts a b e = ap (λ q. q.num *ℤ pos (common values / q.den)) e

  pub equation_holds : (n a b : ℕ) (s p : Truth) → slice_get terms n ≡ Some (term.Bin op.Eq (named a) (named b)) → slice_get types a ≡ Some (plain_type (number_type p)) →
      IsTrueIn values (turned (record { name = n; negated = s })) → HoldsAt values (equation_row a b s)
  equation_holds n a b true p h number t =
      let m = from_two (Bool true) (equal (λ q. q)) (of a values) (of b values) (sym (bin_value terms values model n op.Eq (named a) (named b) h) ∙ t) in
      let same = number-equal m.0 m.1 (numeric_is types values typed a p m.0 number m.2) m.4 in
      stands_equal (parts values a) (parts values b) (parts values 0) (pos (common values)) (equal_parts a b (number_is values a m.0 m.2 ∙ same ∙ sym (number_is values b m.1 m.3)))
  equation_holds n a b false p h number t =
      let m = from_two (Bool false) (equal (λ q. q)) (of a values) (of b values) (sym (bin_value terms values model n op.Eq (named a) (named b) h) ∙ not_true (of n values) t) in
      let apart = number-apart m.0 m.1 (numeric_is types values typed a p m.0 number m.2) m.4 in
      stands_other (parts values a) (parts values b) (parts values 0) (pos (common values))
      (λ e. apart (sym (number_is values a m.0 m.2) ∙ fractions_same (common values) (number_in values a) (number_in values b) (parts values a) (number_reduced types values typed a) (number_reduced types values typed b) (ratio_of a) (subst (λ z. IsRatio (number_in values b) z (common values)) (sym e) (ratio_of b)) ∙ number_is values b m.1 m.3))

  -- what a comparison tells
  compared_is : (n a b : ℕ) (p : Truth) → slice_get terms n ≡ Some (term.Bin op.Le (named a) (named b)) → of n values ≡ Is (Bool p) →
      (v : BScalar) × (w : BScalar) × (of a values ≡ Is v) × (of b values ≡ Is w) × (compared Unbounded is_le v w ≡ Is (Bool p))
  compared_is n a b p h t = from_two (Bool p) (compared Unbounded is_le) (of a values) (of b values) (sym (bin_value terms values model n op.Le (named a) (named b) h) ∙ t)

  order_is : (n a b : ℕ) (p : Truth) → slice_get terms n ≡ Some (term.Bin op.Le (named a) (named b)) → of n values ≡ Is (Bool p) → is_le (order (number_in values a) (number_in values b)) ≡ p
  order_is n a b p h t =
      let m = compared_is n a b p h t in
      ap (λ q. is_le (order q (number_in values b))) (number_is values a m.0 m.2) ∙ ap (λ q. is_le (order (number_of m.0) q)) (number_is values b m.1 m.3) ∙ number-compared m.0 m.1 p m.4

  -- ints that are not at most are above by 1
  int_above : (n a b : ℕ) → slice_get terms n ≡ Some (term.Bin op.Le (named a) (named b)) → of n values ≡ Is (Bool false) → slice_get types a ≡ Some (plain_type base.Int) →
      (parts values b +ℤ pos (common values)) ≤ℤ parts values a
  int_above n a b h t number =
      let m = compared_is n a b false h t in
      let i = as_int m.0 (numeric_fits types values typed a true m.0 number m.2) in
      let both = int_compared m.1 i.0 (subst (λ v. compared Unbounded is_le v m.1 ≡ Is (Bool false)) i.1 m.4) in
      let first : parts values a ≡ i.0 *ℤ pos (common values) = whole_parts a i.0 (number_is values a m.0 m.2 ∙ ap number_of i.1) in
      let second : parts values b ≡ both.0 *ℤ pos (common values) = whole_parts b both.0 (number_is values b m.1 m.3 ∙ ap number_of both.1) in
      let more = more_by_one i.0 both.0 (common values) both.2 in
      omega (arith, ints, first, second, more)
    where
      whole_parts : (n : ℕ) (k : ℤ) → number_in values n ≡ whole k → parts values n ≡ k *ℤ pos (common values)
      whole_parts n k e = parts-whole (common values) k (parts values n) (subst (λ q. IsRatio q (parts values n) (common values)) e (ratio_of n))

      truth_same : {p q : Truth} → Is (Bool p) ≡ Is (Bool q) → p ≡ q
      truth_same {p} h = ap (λ o. truth o p) h
        where
          truth : End BScalar → Truth → Truth
          truth (Is (Bool z)) d = z
          truth _ d = d

      int_compared : (w : BScalar) (i : ℤ) → compared Unbounded is_le (Int i) w ≡ Is (Bool false) → (j : ℤ) × (w ≡ Int j) × (j <ℤ i)
      int_compared (Int j) i e = (j, refl, above_from (common values) i j (truth_same e))
      int_compared _ i e = absurd (cc)

  pub order_holds : (n a b : ℕ) (s p : Truth) → slice_get terms n ≡ Some (term.Bin op.Le (named a) (named b)) → slice_get types a ≡ Some (plain_type (number_type p)) →
      IsTrueIn values (turned (record { name = n; negated = s })) → HoldsAt values (order_row a b p s)
  order_holds n a b true p h number t =
      stands_at_most (parts values a) (parts values b) (parts values 0) (pos (common values)) (parts_at_most (common values) (number_in values a) (number_in values b) (parts values a) (parts values b) (ratio_of a) (ratio_of b) (order_is n a b true h t))
  order_holds n a b false true h number t =
      stands_apart (parts values b) (parts values a) (parts values 0) (pos (common values)) (int_above n a b h (not_true (of n values) t) number)
  order_holds n a b false false h number t =
      stands_below (parts values b) (parts values a) (parts values 0) (pos (common values)) (parts_above (common values) (number_in values a) (number_in values b) (parts values a) (parts values b) (ratio_of a) (ratio_of b) (order_is n a b false h (not_true (of n values) t)))

  -- ---- terms

  at_ratio : (n : ℕ) (q : Fraction) → number_in values n ≡ q → IsRatio q (parts values n) (common values)
  at_ratio n q e = subst (λ r. IsRatio r (parts values n) (common values)) e (ratio_of n)

  pub number_holds : (n : ℕ) (k m : ℤ) → m ≡ neg_ℤ k → number_in values n ≡ whole k → HoldsAt values (two (times (pos 1) n) (times (pos 0) 0) m sign.Equal)
  number_holds n k m e h =
      let is : parts values n ≡ k *ℤ pos (common values) = parts-whole (common values) k (parts values n) (at_ratio n (whole k) h) in
      ap (λ z. pos 1 *ℤ parts values n +ℤ (pos 0 *ℤ parts values 0 +ℤ (pos 0 *ℤ parts values 0 +ℤ z *ℤ pos (common values)))) e ∙ closes (parts values n) k (parts values 0) (common values) is
    where
      closes : (x k z : ℤ) (d : ℕ) → x ≡ k *ℤ pos d → pos 1 *ℤ x +ℤ (pos 0 *ℤ z +ℤ (pos 0 *ℤ z +ℤ neg_ℤ k *ℤ pos d)) ≡ pos 0
      closes x k z d h = simp neg_ℤ-*ℤ (omega (arith, ints))

  module _ (n : ℕ) (p : Truth) (number : slice_get types n ≡ Some (plain_type (number_type p))) where
    pub sum_holds : (a b : ℕ) → slice_get terms n ≡ Some (term.Bin op.Add (named a) (named b)) → HoldsAt values (three (times (pos 1) n) (times (negsuc 0) a) (times (negsuc 0) b))
    sum_holds a b h =
        let is = parts-sum (common values) (number_in values a) (number_in values b) (parts values a) (parts values b) (parts values n) (ratio_of a) (ratio_of b) (at_ratio n _ (number_in-sum terms types values typed model n p number a b h)) in
        closes (parts values n) (parts values a) (parts values b) (pos (common values)) is
      where
        closes : (z x y d : ℤ) → z ≡ x +ℤ y → pos 1 *ℤ z +ℤ (negsuc 0 *ℤ x +ℤ (negsuc 0 *ℤ y +ℤ pos 0 *ℤ d)) ≡ pos 0
        closes z x y d h = omega (arith, ints)

    pub difference_holds : (a b : ℕ) → slice_get terms n ≡ Some (term.Bin op.Sub (named a) (named b)) → HoldsAt values (three (times (pos 1) n) (times (negsuc 0) a) (times (pos 1) b))
    difference_holds a b h =
        let is = parts-difference (common values) (number_in values a) (number_in values b) (parts values a) (parts values b) (parts values n) (ratio_of a) (ratio_of b) (at_ratio n _ (number_in-difference terms types values typed model n p number a b h)) in
        closes (parts values n) (parts values a) (parts values b) (pos (common values)) is
      where
        closes : (z x y d : ℤ) → z ≡ x -ℤ y → pos 1 *ℤ z +ℤ (negsuc 0 *ℤ x +ℤ (pos 1 *ℤ y +ℤ pos 0 *ℤ d)) ≡ pos 0
        closes z x y d h = omega (arith, ints)

    pub neg_holds : (a : ℕ) → slice_get terms n ≡ Some (term.Neg (named a)) → HoldsAt values (two (times (pos 1) n) (times (pos 1) a) (pos 0) sign.Equal)
    neg_holds a h =
        let is = parts-neg (common values) (number_in values a) (parts values a) (parts values n) (ratio_of a) (at_ratio n _ (number_in-neg terms types values typed model n p number a h)) in
        closes (parts values n) (parts values a) (parts values 0) (pos (common values)) is
      where
        closes : (z x y d : ℤ) → z ≡ neg_ℤ x → pos 1 *ℤ z +ℤ (pos 1 *ℤ x +ℤ (pos 0 *ℤ y +ℤ pos 0 *ℤ d)) ≡ pos 0
        closes z x y d h = omega (arith, ints)

    pub to_real_holds : (a : ℕ) → slice_get terms n ≡ Some (term.ToReal (named a)) → HoldsAt values (two (times (pos 1) n) (times (negsuc 0) a) (pos 0) sign.Equal)
    to_real_holds a h =
        stands_equal (parts values n) (parts values a) (parts values 0) (pos (common values)) (equal_parts n a (number_in-to_real terms types values typed model n p number a h))

    -- z parts are a constant times x parts
    scaled : (m : ℕ) (f g h : ℤ) → h ≡ neg_ℤ g → f *ℤ parts values n ≡ g *ℤ parts values m → HoldsAt values (two (times f n) (times h m) (pos 0) sign.Equal)
    scaled m f g h e is =
        ap (λ z. f *ℤ parts values n +ℤ (z *ℤ parts values m +ℤ (pos 0 *ℤ parts values 0 +ℤ pos 0 *ℤ pos (common values)))) e ∙ ap (λ z. f *ℤ parts values n +ℤ (z +ℤ (pos 0 *ℤ parts values 0 +ℤ pos 0 *ℤ pos (common values)))) (neg_ℤ-*ℤ g (parts values m)) ∙ closes (f *ℤ parts values n) (g *ℤ parts values m) (parts values 0) (pos (common values)) is
      where
        closes : (x y z d : ℤ) → x ≡ y → x +ℤ (neg_ℤ y +ℤ (pos 0 *ℤ z +ℤ pos 0 *ℤ d)) ≡ pos 0
        closes x y z d h = omega (arith, ints)

    -- a product with a constant on the left, or on the right
    pub product_holds : (a b : ℕ) (k : Fraction) (h : ℤ) → h ≡ neg_ℤ k.num → number_in values a ≡ k → slice_get terms n ≡ Some (term.Bin op.Mul (named a) (named b)) → HoldsAt values (two (times (pos k.den) n) (times h b) (pos 0) sign.Equal)
    product_holds a b k h e c t =
        let den : 0 < k.den = subst (λ q. 0 < q.den) c (ratio_of a).den in
        let same : number_in values n ≡ product k (number_in values b) = number_in-product terms types values typed model n p number a b t ∙ ap (λ q. product q (number_in values b)) c in
        scaled b (pos k.den) k.num h e (parts-product (common values) k (number_in values b) (parts values b) (parts values n) den (ratio_of b) (at_ratio n _ same))

    pub product_holds_right : (a b : ℕ) (k : Fraction) (h : ℤ) → h ≡ neg_ℤ k.num → number_in values b ≡ k → slice_get terms n ≡ Some (term.Bin op.Mul (named a) (named b)) → HoldsAt values (two (times (pos k.den) n) (times h a) (pos 0) sign.Equal)
    product_holds_right a b k h e c t =
        let den : 0 < k.den = subst (λ q. 0 < q.den) c (ratio_of b).den in
        let same : number_in values n ≡ product k (number_in values a) = number_in-product terms types values typed model n p number a b t ∙ product_comm (number_in values a) (number_in values b) ∙ ap (λ q. product q (number_in values a)) c in
        scaled a (pos k.den) k.num h e (parts-product (common values) k (number_in values a) (parts values a) (parts values n) den (ratio_of a) (at_ratio n _ same))

    -- a quotient by a constant
    pub quotient_holds : (a b : ℕ) (k : Fraction) (h : ℤ) → is_none k ≡ false → h ≡ neg_ℤ (pos k.den) → number_in values b ≡ k → slice_get terms n ≡ Some (term.Bin op.Divide (named a) (named b)) → HoldsAt values (two (times k.num n) (times h a) (pos 0) sign.Equal)
    quotient_holds a b k h other e c t =
        let same : number_in values n ≡ quotient (number_in values a) k =
        number_in-quotient terms types values typed model n p number a b t ∙ ap (λ q. if is_none q then none else quotient (number_in values a) q) c ∙ ap (λ z. if z then none else quotient (number_in values a) k) other in
        scaled a k.num (pos k.den) h e (parts-quotient (common values) (number_in values a) k (parts values a) (parts values n) (ratio_of a) (at_ratio n _ same))

    -- a quotient by 0 is 0
    pub quotient_none : (a b : ℕ) (k : Fraction) → is_none k ≡ true → number_in values b ≡ k → slice_get terms n ≡ Some (term.Bin op.Divide (named a) (named b)) → number_in values n ≡ none
    quotient_none a b k zero c t =
        number_in-quotient terms types values typed model n p number a b t ∙ ap (λ q. if is_none q then none else quotient (number_in values a) q) c ∙ ap (λ z. if z then none else quotient (number_in values a) k) zero
