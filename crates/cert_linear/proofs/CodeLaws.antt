-- What the code finds at names, and rows as it makes them.
use Rattle.std.proofs.Common.{◌≡◌, ℕ, Bool as Truth, true, false, Option, Some, None, List, slice_get, length, get_or, nat_lt, refl, sym, ap, subst, ◌∙◌, arith, ℤ, pos, negsuc, neg_ℤ, unsigned_abs, if◌then◌else◌}
use Rattle.std.specs.Option.{option_map}
use Rattle.std.proofs.lemmas.Option.{slice_get-map, slice_get-get_or}
use Rattle.std.proofs.lemmas.Bool.{ltb-true}
use Rattle.std.proofs.lemmas.Int.{ints}
use Rattle.vb_value.specs.Gcd.{gcd}
use Rattle.vb_value.specs.Fraction.{Fraction, IsReduced, ratio, whole, none, is_none, quotient}
use Rattle.vb_value.proofs.FractionLaws.{reduced_self, IsReduced-whole}
use Rattle.boogie_tree.specs.Program as p
use Rattle.boogie_tree.specs.Values.{plain_type}
use Rattle.boogie_tree.specs.declared.exprs.BOp.{BOp}
use Rattle.boogie_tree.specs.declared.exprs.BOp.TheVariants as op
use Rattle.cert_terms.specs.declared.terms.ClauseLiteral.{ClauseLiteral}
use Rattle.cert_terms.specs.declared.terms.CertificateTerm.{CertificateTerm}
use Rattle.cert_terms.specs.declared.terms.CertificateTerm.TheVariants as term
use Rattle.cert_terms.specs.declared.terms.TypedTerm.{TypedTerm}
use Rattle.cert_terms.specs.View.{terms_in}
use Rattle.cert_linear.specs.declared.rows.LinearRow.{LinearRow}
use Rattle.cert_linear.specs.declared.rows.SumSign.TheVariants as sign
use Rattle.cert_linear.specs.Numbers.{number_in, HoldsAt, IsRowOf, IsLawful, IsConstant, IsTermOf}
use Rattle.cert_linear.specs.Rows.{number_type, named, times, two, three, equation_row, order_row}
use Rattle.cert_linear.proofs.RowLaws.{equation_holds, order_holds, number_holds, sum_holds, difference_holds, neg_holds, to_real_holds, product_holds, product_holds_right, quotient_holds, quotient_none}
use Rattle.cert_linear.proofs.ValueLaws.{number_in-int, number_in-real, number_in-quotient, number_in-neg, number_in-to_real}

-- the element that a look-up finds
pub there : {X : Type 0} (xs : List X) (i : ℕ) (x : X) → true ≡ nat_lt i (length xs) → x ≡ get_or xs i x → slice_get xs i ≡ Some x
there xs i x is same = slice_get-get_or xs i x (ltb-true i (length xs) (sym is)) ∙ ap Some (sym same)

pub term_there : (names : List TypedTerm) (n : ℕ) (x : TypedTerm) → true ≡ nat_lt n (length names) → x ≡ get_or names n x → slice_get (terms_in names) n ≡ Some x.term
term_there names n x is same = slice_get-map (λ (y : TypedTerm). y.term) names n ∙ ap (option_map (λ (y : TypedTerm). y.term)) (there names n x is same)

-- ---- fractions as they are made

pub from_if : {X : Type 0} (p : Truth) (q r : X) → Some q ≡ (if p then Some r else None) → q ≡ r
from_if {X} true q r h = ap or_else h
  where
    or_else : Option X → X
    or_else (Some z) = z
    or_else None = q
from_if false q r h = absurd (cc)

pub whole_made : (n : ℤ) → ratio n (pos 1) ≡ whole n
whole_made n = reduced_self (whole n) (IsReduced-whole n)

pub negative_made : (q : Fraction) → IsReduced q → ratio (neg_ℤ q.num) (pos q.den) ≡ record { num = neg_ℤ q.num; den = q.den }
negative_made q h =
    reduced_self (record { num = neg_ℤ q.num; den = q.den }) (record { positive = h.positive; coprime = ap (λ n. gcd n q.den) (same_size q.num) ∙ h.coprime })
  where
    same_size : (z : ℤ) → unsigned_abs (neg_ℤ z) ≡ unsigned_abs z
    same_size z = omega (arith, ints)

-- ---- rows of literals

module _ (terms : List CertificateTerm) (types : List p.BType) where
  -- a binary term with operands as they are
  operands_are : (n : ℕ) (o p : BOp) (a b : ClauseLiteral) → slice_get terms n ≡ Some (term.Bin o a b) → o ≡ p → a ≡ named a.name → b ≡ named b.name → slice_get terms n ≡ Some (term.Bin p (named a.name) (named b.name))
  operands_are n o p a b h e f g = h ∙ ap (λ z. Some (term.Bin z a b)) e ∙ ap (λ z. Some (term.Bin p z b)) f ∙ ap (λ z. Some (term.Bin p (named a.name) z)) g

  pub equation_law : (l : ClauseLiteral) (o : BOp) (a b : ClauseLiteral) (p : Truth) (r : LinearRow) → slice_get terms l.name ≡ Some (term.Bin o a b) → o ≡ op.Eq → a ≡ named a.name → b ≡ named b.name →
      slice_get types a.name ≡ Some (plain_type (number_type p)) → r ≡ equation_row a.name b.name l.negated → IsRowOf terms types l r
  equation_law l o a b p r h e f g number is values typed model t =
      subst (HoldsAt values) (sym is) (equation_holds terms types values typed model l.name a.name b.name l.negated p (operands_are l.name o op.Eq a b h e f g) number t)

  pub order_law : (l : ClauseLiteral) (o : BOp) (a b : ClauseLiteral) (p : Truth) (r : LinearRow) → slice_get terms l.name ≡ Some (term.Bin o a b) → o ≡ op.Le → a ≡ named a.name → b ≡ named b.name →
      slice_get types a.name ≡ Some (plain_type (number_type p)) → r ≡ order_row a.name b.name p l.negated → IsRowOf terms types l r
  order_law l o a b p r h e f g number is values typed model t =
      subst (HoldsAt values) (sym is) (order_holds terms types values typed model l.name a.name b.name l.negated p (operands_are l.name o op.Le a b h e f g) number t)

  -- ---- constants

  pub int_constant : (n : ℕ) (k : ℤ) (q : Fraction) → slice_get terms n ≡ Some (term.Int k) → q ≡ whole k → IsConstant terms types n q
  int_constant n k q h e values typed model = number_in-int terms types values typed model n k h ∙ sym e

  pub real_constant : (n : ℕ) (k : ℤ) (q : Fraction) → slice_get terms n ≡ Some (term.Real k) → q ≡ whole k → IsConstant terms types n q
  real_constant n k q h e values typed model = number_in-real terms types values typed model n k h ∙ sym e

  module _ (n : ℕ) (p : Truth) (number : slice_get types n ≡ Some (plain_type (number_type p))) where
    pub neg_constant : (a : ClauseLiteral) (q r : Fraction) → slice_get terms n ≡ Some (term.Neg a) → a ≡ named a.name → IsConstant terms types a.name q → r ≡ record { num = neg_ℤ q.num; den = q.den } → IsConstant terms types n r
    neg_constant a q r h e c is values typed model =
        number_in-neg terms types values typed model n p number a.name (h ∙ ap (λ z. Some (term.Neg z)) e) ∙ ap (λ z. record { num = neg_ℤ z.num; den = z.den }) (c values typed model) ∙ sym is

    pub to_real_constant : (a : ClauseLiteral) (q : Fraction) → slice_get terms n ≡ Some (term.ToReal a) → a ≡ named a.name → IsConstant terms types a.name q → IsConstant terms types n q
    to_real_constant a q h e c values typed model =
        number_in-to_real terms types values typed model n p number a.name (h ∙ ap (λ z. Some (term.ToReal z)) e) ∙ c values typed model

    pub quotient_constant : (o : BOp) (a b : ClauseLiteral) (x y r : Fraction) → slice_get terms n ≡ Some (term.Bin o a b) → o ≡ op.Divide → a ≡ named a.name → b ≡ named b.name → IsConstant terms types a.name x → IsConstant terms types b.name y →
        r ≡ (if is_none y then none else quotient x y) → IsConstant terms types n r
    quotient_constant o a b x y r h e f g c d is values typed model =
        number_in-quotient terms types values typed model n p number a.name b.name (operands_are n o op.Divide a b h e f g) ∙ ap (λ z. if is_none z then none else quotient (number_in values a.name) z) (d values typed model) ∙ ap (λ z. if is_none y then none else quotient z y) (c values typed model) ∙ sym is

    -- ---- rows of terms

    pub neg_law : (a : ClauseLiteral) (r : LinearRow) → slice_get terms n ≡ Some (term.Neg a) → a ≡ named a.name → r ≡ two (times (pos 1) n) (times (pos 1) a.name) (pos 0) sign.Equal → IsLawful terms types r
    neg_law a r h e is values typed model =
        subst (HoldsAt values) (sym is) (neg_holds terms types values typed model n p number a.name (h ∙ ap (λ z. Some (term.Neg z)) e))

    pub to_real_law : (a : ClauseLiteral) (r : LinearRow) → slice_get terms n ≡ Some (term.ToReal a) → a ≡ named a.name → r ≡ two (times (pos 1) n) (times (negsuc 0) a.name) (pos 0) sign.Equal → IsLawful terms types r
    to_real_law a r h e is values typed model =
        subst (HoldsAt values) (sym is) (to_real_holds terms types values typed model n p number a.name (h ∙ ap (λ z. Some (term.ToReal z)) e))

    pub as_term : (o : BOp) (a b : ClauseLiteral) → slice_get terms n ≡ Some (term.Bin o a b) → a ≡ named a.name → b ≡ named b.name → IsTermOf terms types n (term.Bin o (named a.name) (named b.name))
    as_term o a b h f g = record { is_int = p; typed = number; is_there = operands_are n o o a b h refl f g }

  pub int_law : (n : ℕ) (k m : ℤ) (r : LinearRow) → slice_get terms n ≡ Some (term.Int k) → m ≡ neg_ℤ k → r ≡ two (times (pos 1) n) (times (pos 0) 0) m sign.Equal → IsLawful terms types r
  int_law n k m r h e is values typed model =
      subst (HoldsAt values) (sym is) (number_holds terms types values typed model n k m e (number_in-int terms types values typed model n k h))

  pub real_law : (n : ℕ) (k m : ℤ) (r : LinearRow) → slice_get terms n ≡ Some (term.Real k) → m ≡ neg_ℤ k → r ≡ two (times (pos 1) n) (times (pos 0) 0) m sign.Equal → IsLawful terms types r
  real_law n k m r h e is values typed model =
      subst (HoldsAt values) (sym is) (number_holds terms types values typed model n k m e (number_in-real terms types values typed model n k h))

  module _ (n a b : ℕ) where
    pub sum_law : (r : LinearRow) → r ≡ three (times (pos 1) n) (times (negsuc 0) a) (times (negsuc 0) b) → IsTermOf terms types n (term.Bin op.Add (named a) (named b)) → IsLawful terms types r
    sum_law r is t values typed model = subst (HoldsAt values) (sym is) (sum_holds terms types values typed model n t.is_int t.typed a b t.is_there)

    pub difference_law : (r : LinearRow) → r ≡ three (times (pos 1) n) (times (negsuc 0) a) (times (pos 1) b) → IsTermOf terms types n (term.Bin op.Sub (named a) (named b)) → IsLawful terms types r
    difference_law r is t values typed model = subst (HoldsAt values) (sym is) (difference_holds terms types values typed model n t.is_int t.typed a b t.is_there)

    pub product_law : (k : Fraction) (r : LinearRow) → IsConstant terms types a k → r ≡ two (times (pos k.den) n) (times (neg_ℤ k.num) b) (pos 0) sign.Equal → IsTermOf terms types n (term.Bin op.Mul (named a) (named b)) → IsLawful terms types r
    product_law k r c is t values typed model = subst (HoldsAt values) (sym is) (product_holds terms types values typed model n t.is_int t.typed a b k (neg_ℤ k.num) refl (c values typed model) t.is_there)

    pub product_law_right : (k : Fraction) (r : LinearRow) → IsConstant terms types b k → r ≡ two (times (pos k.den) n) (times (neg_ℤ k.num) a) (pos 0) sign.Equal → IsTermOf terms types n (term.Bin op.Mul (named a) (named b)) → IsLawful terms types r
    product_law_right k r c is t values typed model = subst (HoldsAt values) (sym is) (product_holds_right terms types values typed model n t.is_int t.typed a b k (neg_ℤ k.num) refl (c values typed model) t.is_there)

    pub quotient_law : (k : Fraction) (r : LinearRow) → is_none k ≡ false → IsConstant terms types b k → r ≡ two (times k.num n) (times (neg_ℤ (pos k.den)) a) (pos 0) sign.Equal → IsTermOf terms types n (term.Bin op.Divide (named a) (named b)) → IsLawful terms types r
    quotient_law k r other c is t values typed model = subst (HoldsAt values) (sym is) (quotient_holds terms types values typed model n t.is_int t.typed a b k (neg_ℤ (pos k.den)) other refl (c values typed model) t.is_there)

    pub quotient_none_law : (k : Fraction) (r : LinearRow) → is_none k ≡ true → IsConstant terms types b k → r ≡ two (times (pos 1) n) (times (pos 0) 0) (pos 0) sign.Equal → IsTermOf terms types n (term.Bin op.Divide (named a) (named b)) → IsLawful terms types r
    quotient_none_law k r zero c is t values typed model =
        subst (HoldsAt values) (sym is) (number_holds terms types values typed model n (pos 0) (pos 0) refl (quotient_none terms types values typed model n t.is_int t.typed a b k zero (c values typed model) t.is_there))
