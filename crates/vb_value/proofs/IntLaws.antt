-- Laws of the product of whole numbers.
use Rattle.std.proofs.Common.{◌≡◌, ◌≢◌, ℕ, zero, suc, ◌+◌, ◌*◌, ◌<◌, refl, sym, ap, ◌∙◌, arith, ℤ, pos, negsuc, neg_ℤ, ◌+ℤ◌, ◌*ℤ◌, unsigned_abs}
use Rattle.std.proofs.lemmas.Int.{ints}
use Rattle.std.proofs.Math.IntN.{*ℤ_comm}
use Rattle.std.proofs.Math.Nat.{eq_of_mul-eq-mul_right}
use borrow.Author.Differences.{up, down, same_in, sum_is_lem, product_is, neg_is}

pub *ℤ_assoc : (a b c : ℤ) → (a *ℤ b) *ℤ c ≡ a *ℤ (b *ℤ c)
*ℤ_assoc a b c =
    let p = product_is a b in
    let q = product_is b c in
    same_in _ _ (omega (arith, ints, ap (λ n. n * up c) p.0, ap (λ n. n * up c) p.1, ap (λ n. n * down c) p.0, ap (λ n. n * down c) p.1, ap (λ n. up a * n) q.0, ap (λ n. up a * n) q.1, ap (λ n. down a * n) q.0, ap (λ n. down a * n) q.1))

pub *ℤ-+ℤ : (a b c : ℤ) → a *ℤ (b +ℤ c) ≡ a *ℤ b +ℤ a *ℤ c
*ℤ-+ℤ a b c =
    let s = sum_is_lem b c in
    same_in _ _ (omega (arith, ints, ap (λ n. up a * n) s, ap (λ n. down a * n) s))

pub +ℤ-*ℤ : (a b c : ℤ) → (a +ℤ b) *ℤ c ≡ a *ℤ c +ℤ b *ℤ c
+ℤ-*ℤ a b c =
    let s = sum_is_lem a b in
    same_in _ _ (omega (arith, ints, ap (λ n. n * up c) s, ap (λ n. n * down c) s))

pub unsigned_abs-*ℤ : (a b : ℤ) → unsigned_abs (a *ℤ b) ≡ unsigned_abs a * unsigned_abs b
unsigned_abs-*ℤ (pos a) (pos b) = refl
unsigned_abs-*ℤ (pos a) (negsuc b) = omega (arith, ints)
unsigned_abs-*ℤ (negsuc a) (pos b) = omega (arith, ints)
unsigned_abs-*ℤ (negsuc a) (negsuc b) = refl

-- a product with a positive number is not 0 where the other factor is not
pub *ℤ_nonzero : (n : ℤ) (d : ℕ) → 0 < d → n ≢ pos 0 → n *ℤ pos d ≢ pos 0
*ℤ_nonzero (pos zero) d h n e = n refl
*ℤ_nonzero (pos (suc m)) d h n e = omega (arith, ints)
*ℤ_nonzero (negsuc m) d h n e = omega (arith, ints)

pub *ℤ_swap : (a b c d : ℤ) → (a *ℤ b) *ℤ (c *ℤ d) ≡ (a *ℤ c) *ℤ (b *ℤ d)
*ℤ_swap a b c d =
    *ℤ_assoc a b (c *ℤ d) ∙ ap (λ z. a *ℤ z) (sym (*ℤ_assoc b c d) ∙ ap (λ z. z *ℤ d) (*ℤ_comm b c) ∙ *ℤ_assoc c b d) ∙ sym (*ℤ_assoc a c (b *ℤ d))

-- a positive factor cancels
pub *ℤ_cancel : (a b : ℤ) (d : ℕ) → 0 < d → a *ℤ pos d ≡ b *ℤ pos d → a ≡ b
*ℤ_cancel a b d h e =
    let parts : (up a + down b) * d ≡ (up b + down a) * d = omega (arith, ints) in
    same_in a b (eq_of_mul-eq-mul_right d h (up a + down b) (up b + down a) parts)

pub neg_ℤ-*ℤ : (a b : ℤ) → neg_ℤ a *ℤ b ≡ neg_ℤ (a *ℤ b)
neg_ℤ-*ℤ a b =
    let n = neg_is a in
    omega (arith, ints, ap (λ k. k * up b) n.0, ap (λ k. k * up b) n.1, ap (λ k. k * down b) n.0, ap (λ k. k * down b) n.1)

pub *ℤ_one : (a : ℤ) → a *ℤ pos 1 ≡ a
*ℤ_one a = omega (arith, ints)

pub one-*ℤ : (a : ℤ) → pos 1 *ℤ a ≡ a
one-*ℤ a = omega (arith, ints)
