-- Amounts of permission, and what is a part of an amount: so much and some amount more.
use Rattle.std.proofs.Common.{◌≡◌, refl, sym, ap, ◌∙◌, subst, ℕ, zero, suc, ◌+◌, ◌*◌, ◌<◌, arith, ℤ, pos, negsuc, ◌+ℤ◌, ◌*ℤ◌, ◌≤ℤ◌, true, false}
use Rattle.std.proofs.lemmas.Bool.{true≢false, false_from_ne_true}
use Rattle.std.proofs.lemmas.Bool.Decides.{Decides-int_eq}
use Rattle.std.proofs.lemmas.Int.{ints}
use Rattle.std.proofs.Math.Nat.{mul-pos}
use Rattle.std.proofs.lemmas.Cmp.{int_ranked, int_cmp_total, by_ranked}
use Rattle.std.specs.Ordering.{int_eq, int_cmp, is_lt, is_gt, ordering_reverse}
use Rattle.std.specs.declared.cmp.Ordering.{Ordering}
use Rattle.std.specs.declared.cmp.Ordering.TheVariants.{Less, Equal, Greater}
use Rattle.vb_value.specs.Fraction.{Fraction, IsReduced, reduced, none, write, sum, difference, product, order, is_above_one, is_below_zero, is_above_zero, is_negative, is_positive, is_none}
use Rattle.vb_value.proofs.FractionLaws.{IsReduced-whole, reduced-ratio, IsReduced-reduced, same_from_cross}
use Rattle.vb_value.proofs.OperationLaws.{sum_comm, sum_assoc, sum-zero, difference-sum, sum-difference}
use Rattle.vb_value.proofs.OrderLaws.{order-sum}
use Rattle.vb_value.proofs.IntLaws.{*ℤ_one, one-*ℤ}
use Rattle.vb_value.proofs.ProperLaws.{IsReduced-sum, IsReduced-difference, IsReduced-product}
use Rattle.vb_value.proofs.SignLaws.{sum_not_negative, product_not_negative, difference_not_negative}

-- a fraction in lowest terms that is not negative
pub record IsAmount (q : Fraction) : Type 0 where
  pub reduced : IsReduced q
  pub not_negative : is_negative q ≡ false

-- an amount, and some amount more
pub record IsPartOf (p q : Fraction) : Type 0 where
  pub part : IsAmount p
  pub rest : Fraction
  pub more : IsAmount rest
  pub all : q ≡ sum p rest

-- ---- signs

not_zero_above : (z : ℤ) → is_below_zero z ≡ false → int_eq z (pos 0) ≡ false → is_above_zero z ≡ true
not_zero_above (pos zero) e f = absurd (true≢false (sym ((Decides-int_eq (pos 0) (pos 0)).1 refl) ∙ f))
not_zero_above (pos (suc n)) e f = refl
not_zero_above (negsuc n) e f = cc

above_not_zero : (z : ℤ) → is_above_zero z ≡ true → int_eq z (pos 0) ≡ false
above_not_zero z e = false_from_ne_true (int_eq z (pos 0)) (λ t. true≢false (sym e ∙ ap is_above_zero ((Decides-int_eq z (pos 0)).0 t)))

pub positive_from_some : (q : Fraction) → is_negative q ≡ false → is_none q ≡ false → is_positive q ≡ true
positive_from_some q = not_zero_above q.num

pub some_from_positive : (q : Fraction) → is_positive q ≡ true → is_none q ≡ false
some_from_positive q = above_not_zero q.num

-- nothing in lowest terms is none itself
pub is_none_itself : (q : Fraction) → IsReduced q → is_none q ≡ true → q ≡ none
is_none_itself q h e =
    let zero_num : q.num ≡ pos 0 = (Decides-int_eq q.num (pos 0)).0 e in
    same_from_cross q none h (IsReduced-whole (pos 0)) (ap (λ z. z *ℤ pos 1) zero_num ∙ omega (arith, ints))

above_from : (x n : ℤ) (d e : ℕ) → 0 < e → is_above_zero n ≡ true → x *ℤ pos d ≡ n *ℤ pos e → is_above_zero x ≡ true
above_from x (pos zero) d e h f g = cc
above_from x (negsuc k) d e h f g = cc
above_from (pos (suc m)) (pos (suc k)) d e h f g = refl
above_from (pos zero) (pos (suc k)) d e h f g = let some : 0 < suc k = omega arith in absurd (omega (arith, ints, g, mul-pos some h))
above_from (negsuc m) (pos (suc k)) d e h f g = let some : 0 < suc k = omega arith in absurd (omega (arith, ints, g, mul-pos some h))

above-reduced : (n : ℤ) (d : ℕ) → 0 < d → is_above_zero n ≡ true → is_positive (reduced n d) ≡ true
above-reduced n d h e = above_from (reduced n d).num n d (reduced n d).den (IsReduced-reduced n d h).positive e (reduced-ratio n d)

above-sum : (x y : ℤ) (d e : ℕ) → 0 < d → is_above_zero x ≡ true → is_below_zero y ≡ false → is_above_zero (x *ℤ pos d +ℤ y *ℤ pos e) ≡ true
above-sum (pos zero) y d e h f g = cc
above-sum (negsuc k) y d e h f g = cc
above-sum (pos (suc k)) (negsuc m) d e h f g = cc
above-sum (pos (suc k)) (pos m) d e h f g =
    let some : 0 < suc k = omega arith in
    above_pos (suc k * d + m * e) (omega (arith, mul-pos some h))
  where
    above_pos : (a : ℕ) → 0 < a → is_above_zero (pos a) ≡ true
    above_pos zero h = absurd (omega arith)
    above_pos (suc a) h = refl

pub sum_positive : (p q : Fraction) → is_positive p ≡ true → is_negative q ≡ false → IsReduced p → IsReduced q → is_positive (sum p q) ≡ true
sum_positive p q e f in_p in_q = above-reduced _ _ (mul-pos in_p.positive in_q.positive) (above-sum p.num q.num q.den p.den in_q.positive e f)

-- ---- amounts

pub amount_none : IsAmount none
amount_none = record { reduced = IsReduced-whole (pos 0); not_negative = refl }

pub amount_sum : {p q : Fraction} → IsAmount p → IsAmount q → IsAmount (sum p q)
amount_sum {p} {q} h g = record { reduced = IsReduced-sum p q h.reduced g.reduced; not_negative = sum_not_negative p q h.not_negative g.not_negative }

-- ---- parts

pub part_sum : {p q : Fraction} → IsAmount p → IsAmount q → IsPartOf p (sum p q)
part_sum {p} {q} h g = record { part = h; rest = q; more = g; all = refl }

pub part_self : {p : Fraction} → IsAmount p → IsPartOf p p
part_self {p} h = record { part = h; rest = none; more = amount_none; all = sym (sum-zero p h.reduced) }

pub whole_amount : {p q : Fraction} → IsPartOf p q → IsAmount q
whole_amount h = subst IsAmount (sym h.all) (amount_sum h.part h.more)

pub part_trans : {p q r : Fraction} → IsPartOf p q → IsPartOf q r → IsPartOf p r
part_trans {p} {q} {r} h g = record {
  part = h.part;
  rest = sum h.rest g.rest;
  more = amount_sum h.more g.more;
  all = g.all ∙ ap (λ z. sum z g.rest) h.all ∙ sum_assoc p h.rest g.rest h.part.reduced.positive h.more.reduced.positive g.more.reduced.positive;
}

-- to add the same keeps parts
pub part_added : {p q : Fraction} (r : Fraction) → IsPartOf p q → IsAmount r → IsPartOf (sum p r) (sum q r)
part_added {p} {q} r h g =
    let positive = h.part.reduced.positive in
    record {
      part = amount_sum h.part g;
      rest = h.rest;
      more = h.more;
      all = ap (λ z. sum z r) h.all ∙ sum_assoc p h.rest r positive h.more.reduced.positive g.reduced.positive ∙ ap (sum p) (sum_comm h.rest r) ∙
          sym (sum_assoc p r h.rest positive g.reduced.positive h.more.reduced.positive);
    }

-- where a part is something, so is the whole
pub part_some : {p q : Fraction} → IsPartOf p q → is_none p ≡ false → is_none q ≡ false
part_some {p} {q} h e =
    some_from_positive q (subst (λ z. is_positive z ≡ true) (sym h.all)
    (sum_positive p h.rest (positive_from_some p h.part.not_negative e) h.more.not_negative h.part.reduced h.more.reduced))

-- ---- parts and the order

not_less : (x y : ℤ) → y ≤ℤ x → is_lt (int_cmp x y) ≡ false
not_less x y h =
    by_ranked _ _ _ (int_cmp x y) (int_ranked x y (int_cmp x y) refl) (λ e less. absurd (omega (arith, ints))) (λ e same. ap is_lt e) (λ e more. ap is_lt e)

not_below_none : (z : ℤ) (d : ℕ) → is_below_zero z ≡ false → is_lt (int_cmp (z *ℤ pos 1) (pos 0 *ℤ pos d)) ≡ false
not_below_none (pos n) d e = not_less (pos n *ℤ pos 1) (pos 0 *ℤ pos d) (omega (arith, ints))
not_below_none (negsuc n) d e = cc

pub enough_from_part : {p q : Fraction} → IsPartOf p q → is_lt (order q p) ≡ false
enough_from_part {p} {q} h =
    let turned : order (sum p h.rest) p ≡ order h.rest none =
    ap (order (sum p h.rest)) (sym (sum-zero p h.part.reduced) ∙ sum_comm p none) ∙ ap (λ z. order z (sum none p)) (sum_comm p h.rest) ∙
    order-sum h.rest none p h.more.reduced.positive amount_none.reduced.positive h.part.reduced.positive in
    ap is_lt (ap (λ z. order z p) h.all ∙ turned) ∙ not_below_none h.rest.num h.rest.den h.more.not_negative

pub part_from_enough : {p q : Fraction} → IsAmount p → IsAmount q → is_lt (order q p) ≡ false → IsPartOf p q
part_from_enough {p} {q} h g e = record {
  part = h;
  rest = difference q p;
  more = record { reduced = IsReduced-difference q p g.reduced h.reduced; not_negative = difference_not_negative q p e };
  all = sym (sum-difference q p g.reduced h.reduced.positive) ∙ sum_comm (difference q p) p;
}

-- where a part is enough, so is the whole
pub part_enough : {p q : Fraction} (r : Fraction) → IsPartOf p q → IsAmount r → is_lt (order p r) ≡ false → is_lt (order q r) ≡ false
part_enough r h g e = enough_from_part (part_trans (part_from_enough g h.part e) h)

-- to take the same keeps parts
pub part_taken : {p q : Fraction} (r : Fraction) → IsPartOf p q → IsAmount r → is_lt (order p r) ≡ false → IsPartOf (difference p r) (difference q r)
part_taken {p} {q} r h g e =
    let left = difference p r in
    let amount_left : IsAmount left = record { reduced = IsReduced-difference p r h.part.reduced g.reduced; not_negative = difference_not_negative p r e } in
    let positive = amount_left.reduced.positive in
    record {
      part = amount_left;
      rest = h.rest;
      more = h.more;
      all =
          ap (λ z. difference z r) (h.all ∙ ap (λ z. sum z h.rest) (sym (sum-difference p r h.part.reduced g.reduced.positive)) ∙
          sum_assoc left r h.rest positive g.reduced.positive h.more.reduced.positive ∙ ap (sum left) (sum_comm r h.rest) ∙
          sym (sum_assoc left h.rest r positive h.more.reduced.positive g.reduced.positive)) ∙
          difference-sum (sum left h.rest) r (IsReduced-sum left h.rest amount_left.reduced h.more.reduced) g.reduced.positive;
    }

turned_less : (o : Ordering) → is_lt (ordering_reverse o) ≡ is_gt o
turned_less Less = refl
turned_less Equal = refl
turned_less Greater = refl

pub above_by_order : (q : Fraction) → is_above_one q ≡ is_lt (order write q)
above_by_order q =
    sym (turned_less (int_cmp q.num (pos q.den))) ∙ ap is_lt (sym (int_cmp_total.antisymm (pos q.den) q.num) ∙
    ap (λ z. int_cmp z q.num) (sym (one-*ℤ (pos q.den))) ∙ ap (int_cmp (pos 1 *ℤ pos q.den)) (sym (*ℤ_one q.num)))

pub amount_write : IsAmount write
amount_write = record { reduced = IsReduced-whole (pos 1); not_negative = refl }

-- where the whole is not above 1, no part is
pub part_not_above : {p q : Fraction} → IsPartOf p q → is_above_one q ≡ false → is_above_one p ≡ false
part_not_above {p} {q} h e =
    above_by_order p ∙ enough_from_part (part_trans h (part_from_enough (whole_amount h) amount_write (sym (above_by_order q) ∙ e)))

pub amount_product : {p q : Fraction} → IsAmount p → IsAmount q → IsAmount (product p q)
amount_product {p} {q} h g = record { reduced = IsReduced-product p q h.reduced g.reduced; not_negative = product_not_negative p q h.not_negative g.not_negative }
