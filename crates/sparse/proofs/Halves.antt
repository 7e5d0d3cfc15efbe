-- Trees that are made by halves.
use Rattle.std.proofs.Common.{◌≡◌, ℕ, suc, ◌+◌, ◌-◌, ◌*◌, ◌/◌, ◌^◌, ◌<◌, ◌≤◌, max, List, ◌∷◌, ◌++◌, ◌⊎◌, inl, inr, length, take, drop, slice_index_or, refl, sym, ap, ◌∙◌, lit<, add-one, arith}
use Rattle.std.specs.declared.rc.Rc.{Rc}
use Rattle.std.proofs.lemmas.Bool.{cases_lt}
use Rattle.std.proofs.Math.Nat.{pow-le-pow_right, pow-succ'}
use Rattle.std.proofs.Math.Seq.{split_at, take-length}
use Rattle.std.proofs.lemmas.List.{length-append, length-drop, length-map, length-take-le, map-append}
use Rattle.sparse.specs.Tree.{Plain, height, node, IsLowest, shared}

double : (h : ℕ) → 2 ^ (h + 1) ≡ 2 * 2 ^ h
double h = rw add-one (pow-succ' 2 h)

grows : (h g : ℕ) → h ≤ g → 2 ^ h ≤ 2 ^ g
grows h g le = pow-le-pow_right {n = 2} (lit< tt) {i = h} {j = g} le

-- trees of a entries and of as many or one less, each as low as can be
module _ (h g a b : ℕ) (less : b ≤ a) (near : a ≤ b + 1) (room : a < 2 ^ h) (low : 2 ^ h ≤ max 1 (2 * a)) (room' : b < 2 ^ g) (low' : 2 ^ g ≤ max 1 (2 * b)) where
  not_above-by : (h < g) ⊎ (g ≤ h) → g ≤ h
  not_above-by (inr le) = le
  not_above-by (inl lt) =
      let e : 2 ^ (h + 1) ≡ 2 * 2 ^ h = double h in
      let p : 2 ^ (h + 1) ≤ 2 ^ g = grows (h + 1) g (omega arith) in
      absurd (omega arith)

  not_far-by : (g + 1 < h) ⊎ (h ≤ g + 1) → h ≤ g + 1
  not_far-by (inr le) = le
  not_far-by (inl lt) =
      let e : 2 ^ (g + 1) ≡ 2 * 2 ^ g = double g in
      let f : 2 ^ (g + 1 + 1) ≡ 2 * 2 ^ (g + 1) = double (g + 1) in
      let p : 2 ^ (g + 1 + 1) ≤ 2 ^ h = grows (g + 1 + 1) h (omega arith) in
      absurd (omega arith)

  over : (g ≤ h) × (h ≤ g + 1) × (a + b + 1 < 2 ^ (h + 1)) × (2 ^ (h + 1) ≤ max 1 (2 * (a + b + 1)))
  over =
      let e : 2 ^ (h + 1) ≡ 2 * 2 ^ h = double h in
      (not_above-by (cases_lt h g), not_far-by (cases_lt (g + 1) h), omega arith, omega arith)

module _ {K V : Type 0} where
  -- a node over two sides that are each as low as can be
  over_lowest : (es fs : List (K × V)) (e : K × V) (l r : Plain K V) → length fs ≤ length es → length es ≤ length fs + 1 → IsLowest es l → IsLowest fs r → IsLowest (es ++ e ∷ fs) (node l e r)
  over_lowest es fs e l r less near x y =
      let h : (height r ≤ height l) × (height l ≤ height r + 1) × (length es + length fs + 1 < 2 ^ (height l + 1)) × (2 ^ (height l + 1) ≤ max 1 (2 * (length es + length fs + 1))) =
      over (height l) (height r) (length es) (length fs) less near x.has_room x.not_higher y.has_room y.not_higher in
      let top : max (height l) (height r) + 1 ≡ height l + 1 = omega arith in
      let count : length (es ++ e ∷ fs) ≡ length es + length fs + 1 = omega (arith, length-append es (e ∷ fs)) in
      record {
        balanced = (x.balanced, y.balanced, (omega arith, omega arith), refl, refl);
        entries_are = rw (x.entries_are, y.entries_are) refl;
        has_room = rw (top, count) h.2;
        not_higher = rw (top, count) h.3;
      }

  module _ {Z : Type 0} (list : List (Rc (K × V) Z)) where
    -- the parts on both sides of the middle
    abbrev pub middle : ℕ
    middle = length list / 2

    abbrev pub front : List (Rc (K × V) Z)
    front = take middle list

    abbrev pub back : List (Rc (K × V) Z)
    back = take (length list - (middle + 1)) (drop (middle + 1) list)

    halves : (e : Rc (K × V) Z) → 0 < length list → e ≡ slice_index_or list middle e → list ≡ front ++ e ∷ back
    halves e some is =
        let rest : back ≡ drop (suc middle) list = rw (← add-one middle, ← length-drop (middle + 1) list) (take-length (drop (middle + 1) list)) in
        rw rest (split_at list middle e (omega arith) ∙ ap (λ (x : Rc (K × V) Z). front ++ x ∷ drop (suc middle) list) (sym is))

    pub from_halves : (e : Rc (K × V) Z) → 0 < length list → e ≡ slice_index_or list middle e → (l r : Plain K V) → IsLowest (shared front) l → IsLowest (shared back) r → IsLowest (shared list) (node l e.value r)
    from_halves e some is l r x y =
        let split : shared list ≡ shared front ++ e.value ∷ shared back =
        ap shared (halves e some is) ∙ map-append (λ (x : Rc (K × V) Z). x.value) front (e ∷ back) in
        let first : length (shared front) ≡ middle = length-map front (λ (x : Rc (K × V) Z). x.value) ∙ length-take-le middle list (omega arith) in
        let last : length (shared back) ≡ length list - (middle + 1) =
        length-map back (λ (x : Rc (K × V) Z). x.value) ∙ length-take-le (length list - (middle + 1)) (drop (middle + 1) list) (omega (arith, length-drop (middle + 1) list)) in
        rw split (over_lowest (shared front) (shared back) e.value l r (omega arith) (omega arith) x y)
