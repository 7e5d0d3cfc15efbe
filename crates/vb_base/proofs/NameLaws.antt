-- Names that differ pairwise stand at one place each.
use Rattle.std.proofs.Common.{◌≡◌, ◌∙◌, ◌<◌, ℕ, List, [], Some, slice_get, sym, inl, inr}
use Rattle.std.proofs.lemmas.Bool.{cases_order}
use Rattle.std.proofs.lemmas.Option.{slice_get_within, get_or_from_slice_get}
use Rattle.vb_base.specs.Names.{NamesDiffer}

not_below : (names : List (List ℕ)) → NamesDiffer names → (i j : ℕ) (x : List ℕ) → slice_get names i ≡ Some x → slice_get names j ≡ Some x → i < j → ⊥
not_below names differ i j x h k below =
    let a = get_or_from_slice_get names i x [] h in
    let b = get_or_from_slice_get names j x [] k in
    differ i j [] below (slice_get_within names j x k) (a ∙ sym b)

pub place_of_name : (names : List (List ℕ)) → NamesDiffer names → (i j : ℕ) (x : List ℕ) → slice_get names i ≡ Some x → slice_get names j ≡ Some x → i ≡ j
place_of_name names differ i j x h k =
    elim (cases_order i j) [
      | inl same ↦ same
      | inr (inl below) ↦ absurd (not_below names differ i j x h k below)
      | inr (inr above) ↦ absurd (not_below names differ j i x k h above)
    ]
