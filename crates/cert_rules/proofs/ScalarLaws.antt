-- What the reasons say of numbers, as laws of the operators.
use Rattle.std.proofs.Common.{◌≡◌, ◌≢◌, ℤ, pos, neg_ℤ, ◌*ℤ◌, ◌+ℤ◌, ◌-ℤ◌, Bool as Truth, true, false, refl, sym, ap, ◌∙◌, arith, if◌then◌else◌}
use Rattle.std.specs.Int.{int_div_euclid, int_rem_euclid}
use Rattle.std.specs.Ordering.{int_cmp, int_eq, is_le}
use Rattle.std.proofs.lemmas.Int.{ints}
use Rattle.std.proofs.lemmas.Bool.Decides.{Decides-int_eq}
use Rattle.std.proofs.Math.IntN.{*ℤ_comm}
use Rattle.lemmas.proofs.Numbers.{apart_from_zero}
use Rattle.vb_value.specs.Bound.{Unbounded}
use Rattle.vb_value.specs.Fraction.{Fraction, none, quotient}
use Rattle.vb_value.specs.Equality.{Decides-fraction_eq}
use Rattle.vb_value.proofs.IntLaws.{*ℤ_assoc, +ℤ-*ℤ, neg_ℤ-*ℤ}
use Rattle.vb_value.proofs.EuclidLaws.{IsEuclidean-euclid}
use Rattle.vb_value.proofs.OperationLaws.{product_comm, product_assoc}
use Rattle.vb_value.proofs.QuotientLaws.{product-quotient}
use Rattle.boogie_tree.specs.Value.{BScalar, Int, Bool, Real}
use Rattle.boogie_tree.specs.Values.{IsReducedScalar}
use Rattle.boogie_tree.specs.declared.exprs.BOp.{BOp}
use Rattle.boogie_tree.specs.declared.exprs.BOp.TheVariants as op
use Rattle.boogie_meaning.specs.Ends.{End, Is, Over, Wrong, then_with}
use Rattle.boogie_meaning.specs.Operators.{plain, binary, is_lazy, settled, settled_or, as_truth, negative, real_from, euclidean}
use Rattle.cert_rules.specs.Shapes.{IsDivision, IsAdditive}
use Rattle.cert_rules.proofs.OrderLaws.{le_from, is_le_from, lt_from, not_le_from, same_from_le, times_le, times_lt}
use Rattle.cert_rules.proofs.FractionLaws.{same_fraction_from_le, fraction_times_le, fraction_times_lt, sum_times, difference_times, whole_times, none_from}

-- ---- values

pub same_truth : {p q : Truth} → Is (Bool p) ≡ Is (Bool q) → p ≡ q
same_truth e = cc

-- an operator that looks at both sides has two values
pub strict : (o : BOp) (left right : End BScalar) (v : BScalar) → is_lazy o ≡ false → binary Unbounded o left right ≡ Is v → (x : BScalar) × ((y : BScalar) × ((left ≡ Is x) × (right ≡ Is y) × (plain Unbounded o x y ≡ Is v)))
strict o left right v e h =
    both left right (sym (ap (λ s. if s then then_with (as_truth left) (λ p. settled_or (settled o p) right) else then_with left (λ x. then_with right (λ y. plain Unbounded o x y))) e) ∙ h)
  where
    both : (left right : End BScalar) → then_with left (λ x. then_with right (λ y. plain Unbounded o x y)) ≡ Is v → (x : BScalar) × ((y : BScalar) × ((left ≡ Is x) × (right ≡ Is y) × (plain Unbounded o x y ≡ Is v)))
    both (Is x) (Is y) h = (x, (y, (refl, refl, h)))
    both (Is x) Over h = absurd cc
    both (Is x) Wrong h = absurd cc
    both Over right h = absurd cc
    both Wrong right h = absurd cc

-- two numbers of one type
pub data AreNumbers : BScalar → BScalar → Type 0 where
  ints_are : (a b : ℤ) → AreNumbers (Int a) (Int b)
  reals_are : (p q : Fraction) → AreNumbers (Real p) (Real q)

pub numbers_le : (x y v : BScalar) → plain Unbounded op.Le x y ≡ Is v → AreNumbers x y
numbers_le (Int a) (Int b) v h = ints_are a b
numbers_le (Real p) (Real q) v h = reals_are p q
numbers_le _ _ v h = absurd cc

pub numbers_mul : (x y v : BScalar) → plain Unbounded op.Mul x y ≡ Is v → AreNumbers x y
numbers_mul (Int a) (Int b) v h = ints_are a b
numbers_mul (Real p) (Real q) v h = reals_are p q
numbers_mul _ _ v h = absurd cc

pub numbers_additive : (o : BOp) → IsAdditive o → (x y v : BScalar) → plain Unbounded o x y ≡ Is v → AreNumbers x y
numbers_additive op.Add d (Int a) (Int b) v h = ints_are a b
numbers_additive op.Add d (Real p) (Real q) v h = reals_are p q
numbers_additive op.Add d _ _ v h = absurd cc
numbers_additive op.Sub d (Int a) (Int b) v h = ints_are a b
numbers_additive op.Sub d (Real p) (Real q) v h = reals_are p q
numbers_additive op.Sub d _ _ v h = absurd cc
numbers_additive _ d x y v h = absurd d

pub additive_strict : (o : BOp) → IsAdditive o → is_lazy o ≡ false
additive_strict op.Add d = refl
additive_strict op.Sub d = refl
additive_strict _ d = absurd d

-- 0
pub data IsZeroNumber : BScalar → Type 0 where
  int_zero : IsZeroNumber (Int (pos 0))
  real_zero : IsZeroNumber (Real none)

-- the value of an operator between two
abbrev pub done : BOp → End BScalar → End BScalar → End BScalar
done o e f = binary Unbounded o e f

-- ---- products

pub commutes : {x y : BScalar} {r : Truth} → AreNumbers x y → done op.Eq (done op.Mul (Is x) (Is y)) (done op.Mul (Is y) (Is x)) ≡ Is (Bool r) → r ≡ true
commutes (ints_are a b) h = sym (same_truth h) ∙ (Decides-int_eq _ _).1 (*ℤ_comm a b)
commutes (reals_are p q) h = sym (same_truth h) ∙ (Decides-fraction_eq _ _).1 (product_comm p q)

pub associates : {x y : BScalar} (z : BScalar) {r : Truth} → AreNumbers x y → IsReducedScalar x → IsReducedScalar y → IsReducedScalar z → done op.Eq (done op.Mul (done op.Mul (Is x) (Is y)) (Is z)) (done op.Mul (Is x) (done op.Mul (Is y) (Is z))) ≡ Is (Bool r) → r ≡ true
associates (Int c) (ints_are a b) in_x in_y in_z h = sym (same_truth h) ∙ (Decides-int_eq _ _).1 (*ℤ_assoc a b c)
associates (Real r) (reals_are p q) in_x in_y in_z h = sym (same_truth h) ∙ (Decides-fraction_eq _ _).1 (product_assoc p q r in_x.positive in_y.positive in_z.positive)
associates _ (ints_are a b) in_x in_y in_z h = absurd cc
associates _ (reals_are p q) in_x in_y in_z h = absurd cc

sum_distributes : {x y : BScalar} (z : BScalar) {r : Truth} → AreNumbers x y → IsReducedScalar x → IsReducedScalar y → IsReducedScalar z → done op.Eq (done op.Mul (done op.Add (Is x) (Is y)) (Is z)) (done op.Add (done op.Mul (Is x) (Is z)) (done op.Mul (Is y) (Is z))) ≡ Is (Bool r) → r ≡ true
sum_distributes (Int c) (ints_are a b) in_x in_y in_z h = sym (same_truth h) ∙ (Decides-int_eq _ _).1 (+ℤ-*ℤ a b c)
sum_distributes (Real r) (reals_are p q) in_x in_y in_z h = sym (same_truth h) ∙ (Decides-fraction_eq _ _).1 (sum_times p q r in_x.positive in_y.positive in_z.positive)
sum_distributes _ (ints_are a b) in_x in_y in_z h = absurd cc
sum_distributes _ (reals_are p q) in_x in_y in_z h = absurd cc

int_difference : (a b c : ℤ) → (a -ℤ b) *ℤ c ≡ a *ℤ c -ℤ b *ℤ c
int_difference a b c = +ℤ-*ℤ a (neg_ℤ b) c ∙ ap (λ z. a *ℤ c +ℤ z) (neg_ℤ-*ℤ b c)

difference_distributes : {x y : BScalar} (z : BScalar) {r : Truth} → AreNumbers x y → IsReducedScalar x → IsReducedScalar y → IsReducedScalar z → done op.Eq (done op.Mul (done op.Sub (Is x) (Is y)) (Is z)) (done op.Sub (done op.Mul (Is x) (Is z)) (done op.Mul (Is y) (Is z))) ≡ Is (Bool r) → r ≡ true
difference_distributes (Int c) (ints_are a b) in_x in_y in_z h = sym (same_truth h) ∙ (Decides-int_eq _ _).1 (int_difference a b c)
difference_distributes (Real r) (reals_are p q) in_x in_y in_z h = sym (same_truth h) ∙ (Decides-fraction_eq _ _).1 (difference_times p q r in_x.positive in_y.positive in_z.positive)
difference_distributes _ (ints_are a b) in_x in_y in_z h = absurd cc
difference_distributes _ (reals_are p q) in_x in_y in_z h = absurd cc

pub distributes : (o : BOp) → IsAdditive o → {x y : BScalar} (z : BScalar) {r : Truth} → AreNumbers x y → IsReducedScalar x → IsReducedScalar y → IsReducedScalar z → done op.Eq (done op.Mul (done o (Is x) (Is y)) (Is z)) (done o (done op.Mul (Is x) (Is z)) (done op.Mul (Is y) (Is z))) ≡ Is (Bool r) → r ≡ true
distributes op.Add d z both in_x in_y in_z h = sum_distributes z both in_x in_y in_z h
distributes op.Sub d z both in_x in_y in_z h = difference_distributes z both in_x in_y in_z h
distributes _ d z both in_x in_y in_z h = absurd d

pub whole_distributes : {x y : BScalar} {r : Truth} → AreNumbers x y → done op.Eq (then_with (done op.Mul (Is x) (Is y)) real_from) (done op.Mul (then_with (Is x) real_from) (then_with (Is y) real_from)) ≡ Is (Bool r) → r ≡ true
whole_distributes (ints_are a b) h = sym (same_truth h) ∙ (Decides-fraction_eq _ _).1 (whole_times a b)
whole_distributes (reals_are p q) h = absurd cc

-- ---- comparisons of products

-- a * d + b * c, as the sum of two products
abbrev pub two_products : BScalar → BScalar → BScalar → BScalar → End BScalar
two_products a b c d = done op.Add (done op.Mul (Is a) (Is d)) (done op.Mul (Is b) (Is c))

pub times_law : {a b c d : BScalar} {p q r : Truth} → AreNumbers a b → AreNumbers c d → IsReducedScalar a → IsReducedScalar b → IsReducedScalar c → IsReducedScalar d → done op.Le (Is a) (Is b) ≡ Is (Bool p) → done op.Le (Is c) (Is d) ≡ Is (Bool q) → done op.Le (two_products a b c d) (two_products a b d c) ≡ Is (Bool r) → p ≡ true → q ≡ true → r ≡ true
times_law (ints_are a b) (ints_are c d) in_a in_b in_c in_d f g h e k = sym (same_truth h) ∙ is_le_from _ _ (times_le a b c d (le_from a b (same_truth f ∙ e)) (le_from c d (same_truth g ∙ k)))
times_law (reals_are a b) (reals_are c d) in_a in_b in_c in_d f g h e k = sym (same_truth h) ∙ fraction_times_le in_a in_b in_c in_d (same_truth f ∙ e) (same_truth g ∙ k)
times_law _ _ in_a in_b in_c in_d f g h e k = absurd cc

pub above_law : {a b c d : BScalar} {p q r : Truth} → AreNumbers b a → AreNumbers d c → IsReducedScalar a → IsReducedScalar b → IsReducedScalar c → IsReducedScalar d → done op.Le (Is b) (Is a) ≡ Is (Bool p) → done op.Le (Is d) (Is c) ≡ Is (Bool q) → done op.Le (two_products a b d c) (two_products a b c d) ≡ Is (Bool r) → p ≡ false → q ≡ false → r ≡ false
above_law (ints_are b a) (ints_are d c) in_a in_b in_c in_d f g h e k = sym (same_truth h) ∙ not_le_from _ _ (times_lt a b c d (lt_from a b (same_truth f ∙ e)) (lt_from c d (same_truth g ∙ k)))
above_law (reals_are b a) (reals_are d c) in_a in_b in_c in_d f g h e k = sym (same_truth h) ∙ fraction_times_lt in_a in_b in_c in_d (same_truth f ∙ e) (same_truth g ∙ k)
above_law _ _ in_a in_b in_c in_d f g h e k = absurd cc

-- ---- equality by two comparisons

pub split_law : {x y : BScalar} {p q r : Truth} → AreNumbers x y → IsReducedScalar x → IsReducedScalar y → done op.Eq (Is x) (Is y) ≡ Is (Bool r) → done op.Le (Is x) (Is y) ≡ Is (Bool p) → done op.Le (Is y) (Is x) ≡ Is (Bool q) → p ≡ true → q ≡ true → r ≡ true
split_law (ints_are a b) in_a in_b e l m hp hq = sym (same_truth e) ∙ (Decides-int_eq a b).1 (same_from_le a b (same_truth l ∙ hp) (same_truth m ∙ hq))
split_law (reals_are a b) in_a in_b e l m hp hq = sym (same_truth e) ∙ (Decides-fraction_eq a b).1 (same_fraction_from_le a b in_a in_b (same_truth l ∙ hp) (same_truth m ∙ hq))

-- ---- quotients and remainders

-- a test for 0 that fails
nonzero : (b : ℤ) → int_eq b (pos 0) ≡ false → b ≢ pos 0
nonzero b e z = let f : true ≡ false = sym ((Decides-int_eq b (pos 0)).1 z) ∙ e in cc

unless_zero : (f : ℤ → ℤ → ℤ) (a b : ℤ) → int_eq b (pos 0) ≡ false → (if int_eq b (pos 0) then pos 0 else f a b) ≡ f a b
unless_zero f a b e = ap (λ s. if s then pos 0 else f a b) e

pub over_int : (a b : BScalar) {z : BScalar} {p r : Truth} → IsZeroNumber z → done op.Eq (Is b) (Is z) ≡ Is (Bool p) → done op.Eq (done op.Add (done op.Mul (Is b) (done op.IntDiv (Is a) (Is b))) (done op.IntMod (Is a) (Is b))) (Is a) ≡ Is (Bool r) → p ≡ false → r ≡ true
over_int (Int a) (Int b) int_zero f h e =
    let t = same_truth f ∙ e in
    sym (same_truth h) ∙ (Decides-int_eq _ _).1 (ap (λ n. b *ℤ n +ℤ (if int_eq b (pos 0) then pos 0 else int_rem_euclid a b)) (unless_zero int_div_euclid a b t) ∙ ap (λ n. b *ℤ int_div_euclid a b +ℤ n) (unless_zero int_rem_euclid a b t) ∙ sym (IsEuclidean-euclid a b (nonzero b t)).whole)
over_int _ _ _ f h e = absurd cc

-- a fraction in lowest terms that is not 0
pub over_real : (a b : BScalar) {z : BScalar} {p r : Truth} → IsZeroNumber z → IsReducedScalar a → IsReducedScalar b → done op.Eq (Is b) (Is z) ≡ Is (Bool p) → done op.Eq (done op.Mul (done op.Divide (Is a) (Is b)) (Is b)) (Is a) ≡ Is (Bool r) → p ≡ false → r ≡ true
over_real (Real a) (Real b) real_zero in_a in_b f h e =
    let nonzero : b.num ≢ pos 0 = λ zero. let g : true ≡ false = sym ((Decides-fraction_eq b none).1 (none_from b in_b zero)) ∙ same_truth f ∙ e in cc in
    sym (same_truth (sym (ap (λ s. done op.Eq (done op.Mul (if s then Is (Real none) else Is (Real (quotient a b))) (Is (Real b))) (Is (Real a))) (apart_from_zero b.num nonzero)) ∙ h)) ∙ (Decides-fraction_eq _ _).1 (product-quotient a b in_a in_b.positive nonzero)
over_real _ _ _ in_a in_b f h e = absurd cc

pub zero_int : (f : ℤ → ℤ → ℤ) (a b : BScalar) {z w : BScalar} {p r : Truth} → IsZeroNumber z → IsZeroNumber w → done op.Eq (Is b) (Is z) ≡ Is (Bool p) → done op.Eq (euclidean f a b) (Is w) ≡ Is (Bool r) → p ≡ true → r ≡ true
zero_int f (Int a) (Int b) int_zero int_zero g h e = sym (same_truth h) ∙ (Decides-int_eq _ _).1 (ap (λ s. if s then pos 0 else f a b) (same_truth g ∙ e))
zero_int f _ _ _ _ g h e = absurd cc

pub zero_real : (a b : BScalar) {z w : BScalar} {p r : Truth} → IsZeroNumber z → IsZeroNumber w → done op.Eq (Is b) (Is z) ≡ Is (Bool p) → done op.Eq (done op.Divide (Is a) (Is b)) (Is w) ≡ Is (Bool r) → p ≡ true → r ≡ true
zero_real (Real a) (Real b) {w = w} {r = r} real_zero other g h e =
    let zero = (Decides-fraction_eq b none).0 (same_truth g ∙ e) in
    none_is other (sym (λ i. done op.Eq (done op.Divide (Is (Real a)) (Is (Real (zero i)))) (Is w)) ∙ h)
  where
    none_is : {w : BScalar} {r : Truth} → IsZeroNumber w → done op.Eq (Is (Real none)) (Is w) ≡ Is (Bool r) → r ≡ true
    none_is real_zero h = sym (same_truth h)
    none_is int_zero h = absurd cc
zero_real _ _ _ _ g h e = absurd cc

pub zero_law : (o : BOp) → IsDivision o → (a b : BScalar) {z w : BScalar} {p r : Truth} → IsZeroNumber z → IsZeroNumber w → done op.Eq (Is b) (Is z) ≡ Is (Bool p) → done op.Eq (done o (Is a) (Is b)) (Is w) ≡ Is (Bool r) → p ≡ true → r ≡ true
zero_law op.Divide d a b z w g h e = zero_real a b z w g h e
zero_law op.IntDiv d a b z w g h e = zero_int int_div_euclid a b z w g h e
zero_law op.IntMod d a b z w g h e = zero_int int_rem_euclid a b z w g h e
zero_law _ d a b z w g h e = absurd d

pub division_strict : (o : BOp) → IsDivision o → is_lazy o ≡ false
division_strict op.Divide d = refl
division_strict op.IntDiv d = refl
division_strict op.IntMod d = refl
division_strict _ d = absurd d

-- ---- bounds of a remainder

pub rest_law : (a b : BScalar) {z : BScalar} {r : Truth} → IsZeroNumber z → done op.Le (Is z) (done op.IntMod (Is a) (Is b)) ≡ Is (Bool r) → r ≡ true
rest_law (Int a) (Int b) int_zero h = sym (same_truth h) ∙ by_test (int_eq b (pos 0)) refl
  where
    by_test : (s : Truth) → int_eq b (pos 0) ≡ s → is_le (int_cmp (pos 0) (if s then pos 0 else int_rem_euclid a b)) ≡ true
    by_test true e = refl
    by_test false e = is_le_from (pos 0) (int_rem_euclid a b) (IsEuclidean-euclid a b (nonzero b e)).not_negative
rest_law _ _ _ h = absurd cc

-- where b is above 0
pub below_law : (a b : BScalar) {z : BScalar} {p r : Truth} → IsZeroNumber z → done op.Le (Is b) (Is z) ≡ Is (Bool p) → done op.Le (Is b) (done op.IntMod (Is a) (Is b)) ≡ Is (Bool r) → p ≡ false → r ≡ false
below_law (Int a) (Int b) int_zero g h e =
    let above = lt_from (pos 0) b (same_truth g ∙ e) in
    let test = apart_from_zero b (λ zero. absurd (omega (arith, ints, above, zero))) in
    let small = (IsEuclidean-euclid a b (nonzero b test)).small in
    sym (same_truth h) ∙ ap (λ n. is_le (int_cmp b n)) (unless_zero int_rem_euclid a b test) ∙ not_le_from (int_rem_euclid a b) b (omega (arith, ints, above, small))
below_law _ _ _ g h e = absurd cc

-- two ints
data AreInts : BScalar → BScalar → Type 0 where
  both_ints : (a b : ℤ) → AreInts (Int a) (Int b)

ints_rest : (x y v : BScalar) → plain Unbounded op.IntMod x y ≡ Is v → AreInts x y
ints_rest (Int a) (Int b) v h = both_ints a b
ints_rest _ _ v h = absurd cc

-- where b is below 0
pub below_negative : (a b : BScalar) {z : BScalar} {p r : Truth} → IsZeroNumber z → done op.Le (Is z) (Is b) ≡ Is (Bool p) → done op.Le (then_with (Is b) negative) (done op.IntMod (Is a) (Is b)) ≡ Is (Bool r) → p ≡ false → r ≡ false
below_negative a b {r = r} zero g h e =
    let parts = strict op.Le (then_with (Is b) negative) (done op.IntMod (Is a) (Is b)) (Bool r) refl h in
    by_ints (ints_rest a b parts.1.0 parts.1.1.1) zero g h e
  where
    by_ints : {a b z : BScalar} {p r : Truth} → AreInts a b → IsZeroNumber z → done op.Le (Is z) (Is b) ≡ Is (Bool p) → done op.Le (then_with (Is b) negative) (done op.IntMod (Is a) (Is b)) ≡ Is (Bool r) → p ≡ false → r ≡ false
    by_ints (both_ints a b) int_zero g h e =
        let under = lt_from b (pos 0) (same_truth g ∙ e) in
        let test = apart_from_zero b (λ zero. absurd (omega (arith, ints, under, zero))) in
        let small = (IsEuclidean-euclid a b (nonzero b test)).small in
        sym (same_truth h) ∙ ap (λ n. is_le (int_cmp (neg_ℤ b) n)) (unless_zero int_rem_euclid a b test) ∙ not_le_from (int_rem_euclid a b) (neg_ℤ b) (omega (arith, ints, under, small))
    by_ints (both_ints a b) real_zero g h e = absurd cc
