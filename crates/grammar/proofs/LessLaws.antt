-- Fewer tokens are left after each step.
use Rattle.std.proofs.Common.{◌<◌, ◌≤◌, arith, ℕ, Result, IfOk}
use Rattle.std.proofs.lemmas.Result.{IfOk-weaker}

pub less : {a b c : ℕ} → b < a → c < b → c < a
less h i = omega (arith, h, i)

pub less_on : {T E : Type 0} {a b : ℕ} (n : T → ℕ) (r : Result T E) → b < a → IfOk r (λ x. n x < b) → IfOk r (λ x. n x < a)
less_on {a = a} {b = b} n r h i = IfOk-weaker r (λ x. n x < b) (λ x. n x < a) (λ x k. less h k) i

pub at_most_on : {T E : Type 0} {a b : ℕ} (n : T → ℕ) (r : Result T E) → b < a → IfOk r (λ x. n x ≤ b) → IfOk r (λ x. n x < a)
at_most_on {a = a} {b = b} n r h i = IfOk-weaker r (λ x. n x ≤ b) (λ x. n x < a) (λ x k. omega (arith, h, k)) i

pub no_more : {a b : ℕ} → b < a → b ≤ a
no_more h = omega (arith, h)

pub no_more_on : {T E : Type 0} {a b : ℕ} (n : T → ℕ) (r : Result T E) → b < a → IfOk r (λ x. n x < b) → IfOk r (λ x. n x ≤ a)
no_more_on {a = a} {b = b} n r h i = IfOk-weaker r (λ x. n x < b) (λ x. n x ≤ a) (λ x k. omega (arith, h, k)) i

pub less_end : {a b c : ℕ} → b < a → c ≤ b → c < a
less_end h i = omega (arith, h, i)

pub end_less : {a b c : ℕ} → b ≤ a → c < b → c < a
end_less h i = omega (arith, h, i)
