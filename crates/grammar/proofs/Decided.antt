-- What is so or is not.
use Rattle.std.proofs.Common.{◌≡◌, ℕ, ◌⊎◌, inl, inr, arith}
use Rattle.std.proofs.lemmas.Bool.{cases_order}

abbrev pub Decided : Type 0 → Type 0
Decided A = A ⊎ (A → ⊥)

pub same_number : (m n : ℕ) → Decided (m ≡ n)
same_number m n = elim (cases_order m n) [
  | inl e ↦ inl e
  | inr (inl lt) ↦ inr (λ e. omega (arith, lt, e))
  | inr (inr lt) ↦ inr (λ e. omega (arith, lt, e))
]

pub decided_by : {A B : Type 0} → (A → B) → (B → A) → Decided A → Decided B
decided_by f g (inl a) = inl (f a)
decided_by f g (inr n) = inr (λ b. n (g b))
