-- The lines of a text, taken off one after the other.
use Rattle.std.proofs.Common.{◌≡◌, ◌∙◌, ◌+◌, ◌<◌, ◌≤◌, ◌==◌, ℕ, List, [], ◌∷◌, ◌++◌, length, length-drop, take, drop, sym, ap, arith}
use Rattle.std.proofs.lemmas.List.{take_more, drop_more}
use Rattle.std.proofs.lemmas.List.Sums.{count_by-le-length}
use Rattle.std.proofs.lemmas.List.Splits.{length-slice_split}
use Rattle.run_file_words.specs.Text.{lines_of}

-- ---- lines

pub lines_few : (bytes : List ℕ) → length (lines_of bytes) ≤ length bytes + 1
lines_few bytes = omega (arith, length-slice_split (λ b. b == 10) bytes, count_by-le-length (λ b. b == 10) bytes)

pub some_line : (bytes : List ℕ) → 1 ≤ length (lines_of bytes)
some_line bytes = omega (arith, length-slice_split (λ b. b == 10) bytes)

-- the line of a turn
pub record Turn (lines : List (List ℕ)) (i : ℕ) (front : List ℕ) (after : List (List ℕ)) : Type 0 where
  pub within : i < length lines
  pub taken : take (i + 1) lines ≡ take i lines ++ front ∷ []
  pub left : after ≡ drop (i + 1) lines

same_first : {x y : List ℕ} {xs ys : List (List ℕ)} → x ∷ xs ≡ y ∷ ys → x ≡ y
same_first e = cc

same_rest : {x y : List ℕ} {xs ys : List (List ℕ)} → x ∷ xs ≡ y ∷ ys → xs ≡ ys
same_rest e = cc

pub turn : (lines : List (List ℕ)) (i : ℕ) (front : List ℕ) (after : List (List ℕ)) → drop i lines ≡ front ∷ after → Turn lines i front after
turn lines i front after e =
    let within : i < length lines = omega (arith, ap length e, length-drop i lines) in
    let both = sym (drop_more lines i [] within) ∙ e in
    record { within = within; taken = take_more lines i [] within ∙ ap (λ x. take i lines ++ x ∷ []) (same_first both); left = sym (same_rest both) }

-- where no line is left all are taken
pub all_taken : (lines : List (List ℕ)) (i : ℕ) → [] ≡ drop i lines → i ≤ length lines → i ≡ length lines
all_taken lines i e within = omega (arith, ap length e, length-drop i lines)
