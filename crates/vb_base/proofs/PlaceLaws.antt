-- How places go on with one more byte, and that places are one.
use Rattle.std.proofs.Common.{◌≡◌, ◌∙◌, ℕ, ◌+◌, ◌^◌, ◌<◌, ◌≤◌, ◌⊎◌, Bool, true, false, cond, not, refl, ap, sym, subst, inl, inr, arith, List, [], ◌∷◌, ◌++◌, length, take, drop, append_assoc}
use Rattle.std.specs.Prelude.{◌==◌}
use Rattle.std.specs.List.{suffix_len, prefix_len}
use Rattle.std.proofs.lemmas.Bool.{cases_order}
use Rattle.std.proofs.lemmas.List.{reverse-append, take-take, take-append-drop}
use Rattle.std.proofs.lemmas.List.Sums.{sum_by_push, count_by-le-length, suffix_len-le-length}
use Rattle.vb_base.specs.declared.places.Pos.{Pos}
use Rattle.vb_base.specs.Place.{line_after, col_after, IsPlaceAfter, IsBefore, Begins, IsPlace}
use Rattle.vb_base.proofs.Place.{same_pos}

pub suffix_len_push : {X : Type 0} (p : X → Bool) (xs : List X) (x : X) → suffix_len p (xs ++ x ∷ []) ≡ cond (p x) (1 + suffix_len p xs) 0
suffix_len_push p xs x = ap (prefix_len p) (reverse-append xs (x ∷ []))

pub line_after_push : (bs : List ℕ) (b : ℕ) → line_after (bs ++ b ∷ []) ≡ line_after bs + cond (b == 10) 1 0
line_after_push bs b = let e = sum_by_push (λ c. cond (c == 10) 1 0) bs b in omega (arith, e)

pub col_after_push : (bs : List ℕ) (b : ℕ) → col_after (bs ++ b ∷ []) ≡ cond (b == 10) 1 (col_after bs + 1)
col_after_push bs b = ap (λ n. n + 1) (suffix_len_push (λ c. not (c == 10)) bs b) ∙ by_case (b == 10) where
  by_case : (t : Bool) → cond (not t) (1 + suffix_len (λ c. not (c == 10)) bs) 0 + 1 ≡ cond t 1 (col_after bs + 1)
  by_case true = refl
  by_case false = omega arith

-- places are no further than the bytes before them
pub line_after-le : (bs : List ℕ) → line_after bs ≤ length bs + 1
line_after-le bs = omega (arith, count_by-le-length (λ b. b == 10) bs)

pub col_after-le : (bs : List ℕ) → col_after bs ≤ length bs + 1
col_after-le bs = omega (arith, suffix_len-le-length (λ b. not (b == 10)) bs)

-- after these bytes is one place
pub one_place_after : (before : List ℕ) (p q : Pos) → IsPlaceAfter before p → IsPlaceAfter before q → p ≡ q
one_place_after before p q h g = same_pos p q (h.line ∙ sym g.line) (h.col ∙ sym g.col)

-- after so few bytes is a place
pub some_place_after : (before : List ℕ) → length before + 1 < 2 ^ 32 → (at : Pos) × IsPlaceAfter before at
some_place_after before few = (
  record {
    line = line_after before;
    col = col_after before;
    line_in_range = (omega arith, omega (arith, few, line_after-le before));
    col_in_range = (omega arith, omega (arith, few, col_after-le before));
  },
  record { line = refl; col = refl },
)

-- a place after more bytes stands behind

abbrev IsBelow : ℕ → ℕ → ℕ → ℕ → Type 0
IsBelow l c m d = (l < m) ⊎ ((l ≡ m) × (c < d))

below_trans : {l c m d n e : ℕ} → IsBelow l c m d → IsBelow m d n e → IsBelow l c n e
below_trans (inl h) (inl g) = inl (omega arith)
below_trans (inl h) (inr g) = inl (omega arith)
below_trans (inr h) (inl g) = inl (omega arith)
below_trans (inr h) (inr g) = inr (omega arith, omega arith)

one_byte_below : (bs : List ℕ) (b : ℕ) → IsBelow (line_after bs) (col_after bs) (line_after (bs ++ b ∷ [])) (col_after (bs ++ b ∷ []))
one_byte_below bs b = by_case (b == 10) (line_after_push bs b) (col_after_push bs b) where
  by_case : (t : Bool) → line_after (bs ++ b ∷ []) ≡ line_after bs + cond t 1 0 → col_after (bs ++ b ∷ []) ≡ cond t 1 (col_after bs + 1) →
      IsBelow (line_after bs) (col_after bs) (line_after (bs ++ b ∷ [])) (col_after (bs ++ b ∷ []))
  by_case true l c = inl (omega (arith, l))
  by_case false l c = inr (omega (arith, l), omega (arith, c))

bytes_below : (bs : List ℕ) (b : ℕ) (us : List ℕ) →
    IsBelow (line_after bs) (col_after bs) (line_after (bs ++ b ∷ us)) (col_after (bs ++ b ∷ us))
bytes_below bs b [] = one_byte_below bs b
bytes_below bs b (u ∷ us) =
    subst (λ vs. IsBelow (line_after bs) (col_after bs) (line_after vs) (col_after vs)) (append_assoc bs (b ∷ []) (u ∷ us))
    (below_trans (one_byte_below bs b) (bytes_below (bs ++ b ∷ []) u us))

pub place_before : (bs us : List ℕ) (p q : Pos) → 0 < length us → IsPlaceAfter bs p → IsPlaceAfter (bs ++ us) q → IsBefore p q
place_before bs [] p q some h g = absurd (omega arith)
place_before bs (u ∷ us) p q some h g = rw (h.line, h.col, g.line, g.col) (bytes_below bs u us)

-- The place of a refusal is one.

-- a text that begins with a list begins with each front of it
begins_front : {T : Type 0} (P : List T → Type 0) (ts : List T) (i j : ℕ) → i ≤ j → Begins P (take j ts) → Begins P (take i ts)
begins_front P ts i j le b =
    let front : take i ts ++ drop i (take j ts) ≡ take j ts = ap (λ l. l ++ drop i (take j ts)) (sym (take-take i j ts le)) ∙ take-append-drop i (take j ts) in
    let whole : take i ts ++ (drop i (take j ts) ++ b.0) ≡ take j ts ++ b.0 = sym (append_assoc (take i ts) (drop i (take j ts)) b.0) ∙ ap (λ l. l ++ b.0) front in
    (drop i (take j ts) ++ b.0, subst P (sym whole) b.1)

no_earlier : {T : Type 0} {P : List T → Type 0} {ts : List T} {i j : ℕ} → IsPlace P ts i → IsPlace P ts j → i < j → ⊥
no_earlier {P = P} {ts = ts} {i = i} {j = j} p q lt = p.after (omega (arith, lt, q.within)) (begins_front P ts (i + 1) j (omega (arith, lt)) q.before)

module _ {T : Type 0} {P : List T → Type 0} {ts : List T} {i j : ℕ} (p : IsPlace P ts i) (q : IsPlace P ts j) where
  in_order : (i ≡ j) ⊎ ((i < j) ⊎ (j < i)) → i ≡ j
  in_order (inl same) = same
  in_order (inr (inl lt)) = absurd (no_earlier p q lt)
  in_order (inr (inr lt)) = absurd (no_earlier q p lt)

pub one_place : {T : Type 0} (P : List T → Type 0) (ts : List T) (i j : ℕ) → IsPlace P ts i → IsPlace P ts j → i ≡ j
one_place P ts i j p q = in_order p q (cases_order i j)
