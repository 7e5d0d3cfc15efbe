-- Lists of what is borrowed.
use denote.Ref.{Bor}
use Rattle.std.proofs.Common.{◌≡◌, refl, sym, ap, ◌∙◌, arith, ℕ, suc, ◌+◌, ◌<◌, ◌≤◌, Option, Some, List, [], ◌∷◌, ◌++◌, append_assoc, drop, length, get_or, slice_get}
use Rattle.std.proofs.Math.Numerals.{add-one}
use Rattle.std.proofs.Math.Seq.{drop-cons, drop-length}
use Rattle.std.proofs.lemmas.List.{drop-map, length-map, map-append}
use Rattle.std.proofs.lemmas.Option.{slice_get-map, slice_get_read, slice_get_within, get_or_from_slice_get}
use Rattle.std.specs.Option.{option_map}
use Rattle.sparse.specs.Map.{borrowed}

abbrev NowAt : {X : Type 0} → Option (Bor X) → Option X
NowAt {X} o = option_map (λ (b : Bor X). b.now) o

module _ {X : Type 0} where
  pub borrowed_here : (xs : List (Bor X)) (i : ℕ) (x : Bor X) → slice_get xs i ≡ Some x → slice_get (borrowed xs) i ≡ Some x.now
  borrowed_here xs i x there = slice_get-map (λ (b : Bor X). b.now) xs i ∙ ap NowAt there

  pub next_borrowed : (xs : List (Bor X)) (i : ℕ) (x : Bor X) → i < length xs → x ≡ get_or xs i x → drop i (borrowed xs) ≡ x.now ∷ drop (i + 1) (borrowed xs)
  next_borrowed xs i x lt is =
      let there : slice_get (borrowed xs) i ≡ Some x.now = borrowed_here xs i x (slice_get_read xs _ i x refl lt is) in
      rw add-one (drop-cons (borrowed xs) i x.now (slice_get_within (borrowed xs) i x.now there) ∙ ap (λ y. y ∷ drop (suc i) (borrowed xs)) (get_or_from_slice_get (borrowed xs) i x.now x.now there))

  pub none_left : (xs : List (Bor X)) (i : ℕ) → length xs ≤ i → i ≤ length xs → drop i (borrowed xs) ≡ []
  none_left xs i above below = let end : i ≡ length (borrowed xs) = omega (arith, length-map xs (λ (b : Bor X). b.now), above, below) in rw end (drop-length (borrowed xs))

  pub pushed : (xs ys : List (Bor X)) (x : Bor X) → ys ≡ xs ++ x ∷ [] → borrowed ys ≡ borrowed xs ++ x.now ∷ []
  pushed xs ys x is = ap (λ zs. borrowed zs) is ∙ map-append (λ (b : Bor X). b.now) xs (x ∷ [])

  -- an item that is moved from the front of a list behind another
  pub moved_on : (xs ys from : List (Bor X)) (i : ℕ) (x : Bor X) → ys ≡ xs ++ x ∷ [] → i < length from → x ≡ get_or from i x → borrowed ys ++ drop (i + 1) (borrowed from) ≡ borrowed xs ++ drop i (borrowed from)
  moved_on xs ys from i x pushed_is lt is =
      ap (λ zs. zs ++ drop (i + 1) (borrowed from)) (pushed xs ys x pushed_is) ∙ append_assoc (borrowed xs) (x.now ∷ []) (drop (i + 1) (borrowed from))
      ∙ ap (λ zs. borrowed xs ++ zs) (sym (next_borrowed from i x lt is))

  pub joined : (xs ys from : List (Bor X)) (i : ℕ) → ys ≡ xs ++ drop i from → borrowed ys ≡ borrowed xs ++ drop i (borrowed from)
  joined xs ys from i is = ap (λ zs. borrowed zs) is ∙ map-append (λ (b : Bor X). b.now) xs (drop i from) ∙ ap (λ zs. borrowed xs ++ zs) (sym (drop-map (λ (b : Bor X). b.now) i from))

  pub borrowed_length : (xs : List (Bor X)) → length (borrowed xs) ≡ length xs
  borrowed_length xs = length-map xs (λ (b : Bor X). b.now)
