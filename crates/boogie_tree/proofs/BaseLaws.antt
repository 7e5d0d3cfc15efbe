-- Where lists of types, and keys, end.
use Rattle.std.proofs.Common.{◌≡◌, refl, sym, ap, ◌∙◌, arith, ℕ, zero, suc, ◌<◌, ◌≤◌, length, nat_eq, drop, drop_of_length-le, false, List, [], ◌∷◌}
use Rattle.std.proofs.Math.Dec.{eqb-zero-suc, eqb-suc-suc}
use Rattle.std.proofs.Math.Seq.{drop-cons}
use Rattle.boogie_tree.specs.Value.{Key}
use Rattle.boogie_tree.specs.Values.{same_bases, fits_key}
use Rattle.boogie_tree.specs.declared.exprs.BBase.{BBase}
use Rattle.boogie_tree.specs.declared.exprs.BBase.TheVariants as base

-- ---- types

pub short_bases : (us ws : List BBase) (i j : ℕ) → i < length us → length ws ≤ j → false ≡ same_bases (drop i us) (drop j ws)
short_bases us ws i j lt above = sym (λ n. same_bases (drop-cons us i base.Int lt n) (drop_of_length-le ws above n))

bases_end : (ws : List BBase) (j : ℕ) → j ≤ length ws → nat_eq j (length ws) ≡ same_bases [] (drop j ws)
bases_end [] zero h = refl
bases_end [] (suc j) h = absurd (omega (arith, h))
bases_end (w ∷ ws) zero h = eqb-zero-suc (length ws)
bases_end (w ∷ ws) (suc j) h = eqb-suc-suc j (length ws) ∙ bases_end ws j (omega (arith, h))

pub full_bases : (us ws : List BBase) (i j : ℕ) → length us ≤ i → j ≤ length ws → nat_eq j (length ws) ≡ same_bases (drop i us) (drop j ws)
full_bases us ws i j above h = bases_end ws j h ∙ ap (λ xs. same_bases xs (drop j ws)) (sym (drop_of_length-le us above))

-- ---- keys

pub short_key : (us : List BBase) (k : Key) (i j : ℕ) → i < length us → length k ≤ j → false ≡ fits_key (drop i us) (drop j k)
short_key us k i j lt above = sym (λ n. fits_key (drop-cons us i base.Int lt n) (drop_of_length-le k above n))

key_ends : (k : Key) (j : ℕ) → j ≤ length k → nat_eq j (length k) ≡ fits_key [] (drop j k)
key_ends [] zero h = refl
key_ends [] (suc j) h = absurd (omega (arith, h))
key_ends (a ∷ k) zero h = eqb-zero-suc (length k)
key_ends (a ∷ k) (suc j) h = eqb-suc-suc j (length k) ∙ key_ends k j (omega (arith, h))

pub full_key : (us : List BBase) (k : Key) (i j : ℕ) → length us ≤ i → j ≤ length k → nat_eq j (length k) ≡ fits_key (drop i us) (drop j k)
full_key us k i j above h = key_ends k j h ∙ ap (λ ws. fits_key ws (drop j k)) (sym (drop_of_length-le us above))
