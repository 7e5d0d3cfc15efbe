-- The order of numbers: what comparisons tell, over ints and over fractions in lowest terms.
use Rattle.std.proofs.Common.{◌≡◌, ℕ, ◌*◌, ◌<◌, refl, sym, ap, ◌∙◌, arith, ℤ, pos, ◌+ℤ◌, ◌-ℤ◌, ◌*ℤ◌, ◌≤ℤ◌, ◌<ℤ◌, unsigned_abs, true, false}
use Rattle.std.specs.Ordering.{int_cmp, is_le}
use Rattle.std.proofs.lemmas.Int.{ints}
use Rattle.std.proofs.Math.Nat.{mul-pos}
use Rattle.vb_value.proofs.IntLaws.{*ℤ-+ℤ, +ℤ-*ℤ}
use Rattle.std.proofs.lemmas.Cmp.{int_ranked, by_ranked}

-- ---- ints

pub le_from : (x y : ℤ) → is_le (int_cmp x y) ≡ true → x ≤ℤ y
le_from x y e =
    by_ranked _ _ _ (int_cmp x y) (int_ranked x y (int_cmp x y) refl) (λ _ h. omega (arith, ints)) (λ _ h. omega (arith, ints)) (λ greater h. let f : false ≡ true = ap is_le (sym greater) ∙ e in cc)

pub is_le_from : (x y : ℤ) → x ≤ℤ y → is_le (int_cmp x y) ≡ true
is_le_from x y l =
    by_ranked _ _ _ (int_cmp x y) (int_ranked x y (int_cmp x y) refl) (λ less h. ap is_le less) (λ equal h. ap is_le equal) (λ _ h. absurd (omega (arith, ints)))

pub lt_from : (x y : ℤ) → is_le (int_cmp y x) ≡ false → x <ℤ y
lt_from x y e =
    by_ranked _ _ _ (int_cmp y x) (int_ranked y x (int_cmp y x) refl) (λ less h. let f : true ≡ false = ap is_le (sym less) ∙ e in cc) (λ equal h. let f : true ≡ false = ap is_le (sym equal) ∙ e in cc) (λ _ h. h)

pub not_le_from : (x y : ℤ) → x <ℤ y → is_le (int_cmp y x) ≡ false
not_le_from x y l =
    by_ranked _ _ _ (int_cmp y x) (int_ranked y x (int_cmp y x) refl) (λ _ h. absurd (omega (arith, ints))) (λ _ h. absurd (omega (arith, ints))) (λ greater h. ap is_le greater)

-- two numbers, neither of which is the greater, are one
pub same_from_le : (x y : ℤ) → is_le (int_cmp x y) ≡ true → is_le (int_cmp y x) ≡ true → x ≡ y
same_from_le x y e f =
    let l = le_from x y e in
    let g = le_from y x f in
    omega (arith, ints)

-- how far it is from the one up to the other
step : (a b : ℤ) → a ≤ℤ b → (m : ℕ) × (b ≡ a +ℤ pos m)
step a b l = (unsigned_abs (b -ℤ a), omega (arith, ints))

-- (b - a) * (d - c), where b is a + m, and d is c + n
times_step : (a c : ℤ) (m n : ℕ) → (a *ℤ c +ℤ (a +ℤ pos m) *ℤ (c +ℤ pos n)) ≡ (a *ℤ (c +ℤ pos n) +ℤ (a +ℤ pos m) *ℤ c) +ℤ pos (m * n)
times_step a c m n = simp (+ℤ-*ℤ, *ℤ-+ℤ) (omega (arith, ints))

times_is : (a b c d : ℤ) (m n : ℕ) → b ≡ a +ℤ pos m → d ≡ c +ℤ pos n → (a *ℤ c +ℤ b *ℤ d) ≡ (a *ℤ d +ℤ b *ℤ c) +ℤ pos (m * n)
times_is a b c d m n e f =
    ap (λ z. a *ℤ c +ℤ z *ℤ d) e ∙ ap (λ z. a *ℤ c +ℤ (a +ℤ pos m) *ℤ z) f ∙ times_step a c m n ∙ sym (ap (λ z. (a *ℤ d +ℤ z *ℤ c) +ℤ pos (m * n)) e ∙ ap (λ z. (a *ℤ z +ℤ (a +ℤ pos m) *ℤ c) +ℤ pos (m * n)) f)

-- it is not negative where neither factor is
pub times_le : (a b c d : ℤ) → a ≤ℤ b → c ≤ℤ d → (a *ℤ d +ℤ b *ℤ c) ≤ℤ (a *ℤ c +ℤ b *ℤ d)
times_le a b c d l m =
    let s = step a b l in
    let t = step c d m in
    let e = times_is a b c d s.0 t.0 s.1 t.1 in
    omega (arith, ints, e)

-- and positive where both factors are
pub times_lt : (a b c d : ℤ) → a <ℤ b → c <ℤ d → (a *ℤ d +ℤ b *ℤ c) <ℤ (a *ℤ c +ℤ b *ℤ d)
times_lt a b c d l m =
    let s = step a b (omega (arith, ints)) in
    let t = step c d (omega (arith, ints)) in
    let e = times_is a b c d s.0 t.0 s.1 t.1 in
    let f : 0 < s.0 = omega (arith, ints, s.1) in
    let g : 0 < t.0 = omega (arith, ints, t.1) in
    omega (arith, ints, e, mul-pos f g)
