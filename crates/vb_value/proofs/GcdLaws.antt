-- What `gcd` is: a common divisor, and the greatest, which each other divides.
use Rattle.std.proofs.Common.{◌≡◌, ℕ, zero, suc, ◌+◌, ◌*◌, ◌/◌, ◌%◌, ◌<◌, ◌≤◌, refl, sym, ap, ◌∙◌, arith, subst}
use Rattle.std.specs.Int.{IsGcd, ◌∣◌}
use Rattle.std.proofs.lemmas.Nat.Gcd.{IsGcd-from_zero, IsGcd-from_mod, IsGcd-swap, same_from_IsGcd}
use Rattle.std.proofs.Math.Nat.{eq-one_of_dvd-one, pos_of_dvd_of_pos, le_of_dvd, dvd_antisymm, dvd-mul_left, dvd-mul_right, mul-dvd-mul_left, dvd_of_mul-dvd-mul_left, mul-div_cancel', mul_comm, mul-one, eq_of_mul-eq-mul_left}
use Rattle.vb_value.specs.Gcd.{gcd_within, gcd}

IsGcd-gcd_within : (n a b : ℕ) → b < n → IsGcd a b (gcd_within n a b)
IsGcd-gcd_within zero a b h = absurd (omega arith)
IsGcd-gcd_within (suc n) a zero h = IsGcd-from_zero a zero refl
IsGcd-gcd_within (suc n) a (suc b) h =
    let r : a % suc b < suc b = omega arith in
    IsGcd-from_mod a (suc b) _ (IsGcd-gcd_within n (suc b) (a % suc b) (omega arith))

-- `gcd a b` divides both, and each common divisor divides it
pub IsGcd-gcd : (a b : ℕ) → IsGcd a b (gcd a b)
unfolding gcd
IsGcd-gcd a b = IsGcd-gcd_within (b + 1) a b (omega arith)

-- it is the only such number
pub gcd_from_IsGcd : (a b g : ℕ) → IsGcd a b g → gcd a b ≡ g
gcd_from_IsGcd a b g h = same_from_IsGcd a b (gcd a b) g (IsGcd-gcd a b) h

-- one step of Euclid's algorithm
pub gcd-mod : (a b : ℕ) → gcd a b ≡ gcd b (a % b)
gcd-mod a b = gcd_from_IsGcd a b _ (IsGcd-from_mod a b _ (IsGcd-gcd b (a % b)))

-- its end
pub gcd-zero : (a : ℕ) → gcd a 0 ≡ a
gcd-zero a = gcd_from_IsGcd a 0 a (IsGcd-from_zero a 0 refl)

pub gcd_comm : (a b : ℕ) → gcd a b ≡ gcd b a
gcd_comm a b = gcd_from_IsGcd a b _ (IsGcd-swap b a _ (IsGcd-gcd b a))

-- ---- what follows for two numbers of which the second is positive

pub gcd_pos : (a b : ℕ) → 0 < b → 0 < gcd a b
gcd_pos a b h = pos_of_dvd_of_pos (IsGcd-gcd a b).1 h

pub gcd_le : (a b : ℕ) → 0 < b → gcd a b ≤ b
gcd_le a b h = le_of_dvd h (IsGcd-gcd a b).1

-- a common factor comes out
pub gcd-mul : (k a b : ℕ) → 0 < k → gcd (k * a) (k * b) ≡ k * gcd a b
gcd-mul k a b h =
    let whole = IsGcd-gcd (k * a) (k * b) in
    let part = IsGcd-gcd a b in
    let g = gcd (k * a) (k * b) in
    let back : k * (g / k) ≡ g = mul-div_cancel' k (whole.2 k (dvd-mul_right k a) (dvd-mul_right k b)) in
    let in_a : g / k ∣ a = dvd_of_mul-dvd-mul_left (g / k) h (rw back whole.0) in
    let in_b : g / k ∣ b = dvd_of_mul-dvd-mul_left (g / k) h (rw back whole.1) in
    let up : g ∣ k * gcd a b = rw back at (mul-dvd-mul_left (g / k) k (part.2 (g / k) in_a in_b)) in
    dvd_antisymm up (whole.2 (k * gcd a b) (mul-dvd-mul_left (gcd a b) k part.0) (mul-dvd-mul_left (gcd a b) k part.1))

-- what is left of two numbers has no common divisor above 1
pub gcd-div : (a b : ℕ) → 0 < b → gcd (a / gcd a b) (b / gcd a b) ≡ 1
gcd-div a b h =
    let g = gcd a b in
    let p : 0 < g = gcd_pos a b h in
    let is = IsGcd-gcd a b in
    let whole : g * gcd (a / g) (b / g) ≡ g * 1 =
    sym (gcd-mul g (a / g) (b / g) p) ∙ same_gcd (mul-div_cancel' g is.0) (mul-div_cancel' g is.1) ∙ sym (mul-one g) in
    eq_of_mul-eq-mul_left g p _ _ whole
  where
    same_gcd : {x y v w : ℕ} → x ≡ v → y ≡ w → gcd x y ≡ gcd v w
    same_gcd p q = cc

-- a number that has no common divisor with a and divides `a * d` divides d
pub dvd_from_coprime : (a b d : ℕ) → 0 < d → gcd a b ≡ 1 → b ∣ a * d → b ∣ d
dvd_from_coprime a b d h one divides =
    let e : gcd (d * a) (d * b) ≡ d = gcd-mul d a b h ∙ ap (λ n. d * n) one ∙ mul-one d in
    subst (λ n. b ∣ n) e ((IsGcd-gcd (d * a) (d * b)).2 b (rw (mul_comm d a) divides) (dvd-mul_left b d))

pub gcd-one : (a : ℕ) → gcd a 1 ≡ 1
gcd-one a = eq-one_of_dvd-one (IsGcd-gcd a 1).1
