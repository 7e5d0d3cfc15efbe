-- Variables that are set, one after the other.
use Rattle.std.proofs.Common.{arith, ◌≡◌, sym, refl, ap, ◌∙◌, ℕ, zero, suc, ◌+◌, ◌≤◌, min, length, drop, List, [], ◌∷◌, slice_set}
use Rattle.std.proofs.Math.Seq.{drop-nil}
use Rattle.vb_value.specs.declared.values.Value.{Value}
use Rattle.viper_meaning.specs.Statements.{stored}

pub stored_next : (store : List Value) (xs : List ℕ) (vs : List Value) (i x : ℕ) (v : Value) → drop i xs ≡ x ∷ drop (i + 1) xs → drop i vs ≡ v ∷ drop (i + 1) vs →
    stored (slice_set store x v) (drop (i + 1) xs) (drop (i + 1) vs) ≡ stored store (drop i xs) (drop i vs)
stored_next store xs vs i x v here there = sym (λ j. stored store (here j) (there j))

no_variables : (store vs : List Value) → stored store [] vs ≡ store
no_variables store [] = refl
no_variables store (v ∷ vs) = refl

no_values : (store : List Value) (xs : List ℕ) → stored store xs [] ≡ store
no_values store [] = refl
no_values store (x ∷ xs) = refl

pub stored_end : (store : List Value) (xs : List ℕ) (vs : List Value) (i : ℕ) → min (length xs) (length vs) ≤ i → stored store (drop i xs) (drop i vs) ≡ store
stored_end store [] vs i h = ap (λ ys. stored store ys (drop i vs)) (drop-nil i) ∙ no_variables store (drop i vs)
stored_end store (x ∷ xs) [] i h = ap (λ ws. stored store (drop i (x ∷ xs)) ws) (drop-nil i) ∙ no_values store (drop i (x ∷ xs))
stored_end store (x ∷ xs) (v ∷ vs) zero h = absurd (omega (arith, h))
stored_end store (x ∷ xs) (v ∷ vs) (suc i) h = stored_end store xs vs i (omega (arith, h))
