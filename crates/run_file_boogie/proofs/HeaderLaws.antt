-- The header of a file names one procedure, or goes wrong at one place.
use Rattle.std.proofs.Common.{◌≡◌, ◌∙◌, ◌+◌, ◌≤◌, ◌⊎◌, inl, inr, ◌==◌, ℕ, suc, Bool, true, false, not, cond, List, [], ◌∷◌, ◌++◌, length, take, drop, Option, Some, None, refl, sym, ap, subst, arith}
use Rattle.std.specs.Prelude.{filter, map}
use Rattle.std.proofs.lemmas.Bool.{cases_order}
use Rattle.std.proofs.lemmas.List.Splits.{length-slice_split}
use Rattle.vb_base.specs.Limits.{max_boogie_bytes}
use Rattle.vb_base.specs.Place.{line_after}
use Rattle.vb_base.specs.declared.places.Pos.{Pos}
use Rattle.vb_base.proofs.Place.{same_pos}
use Rattle.vb_base.proofs.PlaceLaws.{line_after-le}
use Rattle.run_file_words.specs.Text.{lines_of, told, is_skipped, words_of}
use Rattle.run_file_words.specs.Machine.{bad_line, no_header}
use Rattle.run_file_boogie.specs.BoogieRun.{SpellsName, NamesNothingAt}
use Rattle.run_file_boogie.specs.BoogieProgress.{header_name}
use Rattle.run_file_boogie.specs.BoogieView.{FirstSaid}
use Rattle.run_file_boogie.proofs.BoogieNameLaws.{no_front, told_split, told_first, header_named, no_may, early, never_wrong}

-- ---- the first line that is not skipped

abbrev IsSaid : List (List ℕ) → Type 0
IsSaid lines = (told lines ≡ []) ⊎ ((i : ℕ) × (text : List ℕ) × FirstSaid lines i text)

skip_told : (l : List ℕ) (lines : List (List ℕ)) → is_skipped l ≡ true → told (l ∷ lines) ≡ told lines
skip_told l lines skipped = ap (λ b. map words_of (cond (not b) (l ∷ filter (λ x. not (is_skipped x)) lines) (filter (λ x. not (is_skipped x)) lines))) skipped

said_now : (l : List ℕ) (lines : List (List ℕ)) → is_skipped l ≡ false → FirstSaid (l ∷ lines) 0 l
said_now l lines said = record { within = omega arith; skipped = refl; here = refl; said = said }

said_later : (l : List ℕ) (lines : List (List ℕ)) → is_skipped l ≡ true → IsSaid lines → IsSaid (l ∷ lines)
said_later l lines skipped (inl none) = inl (skip_told l lines skipped ∙ none)
said_later l lines skipped (inr (i, text, h)) =
    let next : suc (i + 1) ≡ suc i + 1 = omega arith in
    inr (
      suc i,
      text,
      record {
        within = omega (arith, h.within);
        skipped = skip_told l (take i lines) skipped ∙ h.skipped;
        here = subst (λ n. drop (suc i) (l ∷ lines) ≡ text ∷ drop n (l ∷ lines)) next h.here;
        said = h.said;
      },
    )

said_by : (l : List ℕ) (lines : List (List ℕ)) (b : Bool) → is_skipped l ≡ b → IsSaid lines → IsSaid (l ∷ lines)
said_by l lines true is h = said_later l lines is h
said_by l lines false is h = inr (0, l, said_now l lines is)

first_said : (lines : List (List ℕ)) → IsSaid lines
first_said [] = inl refl
first_said (l ∷ lines) = said_by l lines (is_skipped l) refl (first_said lines)

-- ---- the header of a file

module _ (bytes : List ℕ) where
  names : (i : ℕ) (text name : List ℕ) → FirstSaid (lines_of bytes) i text → header_name (words_of text) ≡ Some name → SpellsName bytes name
  names i text name h e = record {
    words = told (drop (i + 1) (lines_of bytes));
    headed = told_split (i + 1) (lines_of bytes) ∙ (ap (λ x. x ++ told (drop (i + 1) (lines_of bytes))) (told_first (lines_of bytes) h) ∙ ap (λ x. x ∷ told (drop (i + 1) (lines_of bytes))) (header_named (words_of text) name e));
  }

  abbrev Answer : Type 0
  Answer = ((name : List ℕ) × SpellsName bytes name) ⊎ ((at : Pos) × NamesNothingAt bytes at)

  module _ (few : length bytes ≤ max_boogie_bytes) where
    at_line : (line : ℕ) → 1 ≤ line → line ≤ length (lines_of bytes) → Pos
    at_line line some within =
        let lines : length (lines_of bytes) ≡ line_after bytes = length-slice_split (λ b. b == 10) bytes in
        record { line = line; col = 1; line_in_range = (some, omega (arith, within, lines, line_after-le bytes, few)); col_in_range = (omega arith, omega arith) }

    line_is : (line : ℕ) (some : 1 ≤ line) (within : line ≤ length (lines_of bytes)) → (at_line line some within).line ≡ line
    unfolding at_line
    line_is line some within = refl

    col_is : (line : ℕ) (some : 1 ≤ line) (within : line ≤ length (lines_of bytes)) → (at_line line some within).col ≡ 1
    unfolding at_line
    col_is line some within = refl

    of_line : (i : ℕ) (text : List ℕ) → FirstSaid (lines_of bytes) i text → (o : Option (List ℕ)) → header_name (words_of text) ≡ o → Answer
    of_line i text h (Some name) e = inl (name, names i text name h e)
    of_line i text h None e =
        let some : 1 ≤ i + 1 = omega arith in let within : i + 1 ≤ length (lines_of bytes) = omega (arith, h.within) in
        inr (
          at_line (i + 1) some within,
          bad_line i h.within (inl h.skipped) (no_may (lines_of bytes) i text h e (i + 1) (omega arith)) (line_is (i + 1) some within) (col_is (i + 1) some within),
        )

    of_lines : IsSaid (lines_of bytes) → Answer
    of_lines (inl none) =
        let lines : length (lines_of bytes) ≡ line_after bytes = length-slice_split (λ b. b == 10) bytes in
        let some : 1 ≤ line_after bytes = omega arith in let within : line_after bytes ≤ length (lines_of bytes) = omega (arith, lines) in
        inr (at_line (line_after bytes) some within, no_header none (line_is (line_after bytes) some within) (col_is (line_after bytes) some within))
    of_lines (inr (i, text, h)) = of_line i text h (header_name (words_of text)) refl

    pub header_or_place : Answer
    header_or_place = of_lines (first_said (lines_of bytes))

  -- where it goes wrong

  empty_line : told (lines_of bytes) ≡ [] → (at : Pos) → NamesNothingAt bytes at → (at.line ≡ line_after bytes) × (at.col ≡ 1)
  empty_line none at (bad_line i within before after line col) =
      absurd (after (inl (no_front (told (take (i + 1) (lines_of bytes))) (told (drop (i + 1) (lines_of bytes))) (sym (told_split (i + 1) (lines_of bytes)) ∙ none))))
  empty_line none at (no_header told_none line col) = (line, col)

  said_line : (i : ℕ) (text : List ℕ) → FirstSaid (lines_of bytes) i text → header_name (words_of text) ≡ None → (at : Pos) → NamesNothingAt bytes at → (at.line ≡ i + 1) × (at.col ≡ 1)
  said_line i text h e at (no_header told_none line col) =
      absurd (no_may (lines_of bytes) i text h e (i + 1) (omega arith)
      (inl (no_front (told (take (i + 1) (lines_of bytes))) (told (drop (i + 1) (lines_of bytes))) (sym (told_split (i + 1) (lines_of bytes)) ∙ told_none))))
  said_line i text h e at (bad_line j within before after line col) =
      elim (cases_order j i) [
        | inl same ↦ (line ∙ ap (λ k. k + 1) same, col)
        | inr (inl below) ↦ absurd (after (inl (early (lines_of bytes) i text h j (omega (arith, below)))))
        | inr (inr above) ↦ absurd (no_may (lines_of bytes) i text h e j (omega (arith, above)) before)
      ]

  one_by : (i : ℕ) (text : List ℕ) → FirstSaid (lines_of bytes) i text → (o : Option (List ℕ)) → header_name (words_of text) ≡ o → (at to : Pos) → NamesNothingAt bytes at → NamesNothingAt bytes to → at ≡ to
  one_by i text h (Some name) e at to k l = absurd (never_wrong bytes name at (names i text name h e) k)
  one_by i text h None e at to k l = let a = said_line i text h e at k in let b = said_line i text h e to l in same_pos at to (a.0 ∙ sym b.0) (a.1 ∙ sym b.1)

  one_of : IsSaid (lines_of bytes) → (at to : Pos) → NamesNothingAt bytes at → NamesNothingAt bytes to → at ≡ to
  one_of (inl none) at to k l = let a = empty_line none at k in let b = empty_line none to l in same_pos at to (a.0 ∙ sym b.0) (a.1 ∙ sym b.1)
  one_of (inr (i, text, h)) at to k l = one_by i text h (header_name (words_of text)) refl at to k l

  pub one_header_place : (at to : Pos) → NamesNothingAt bytes at → NamesNothingAt bytes to → at ≡ to
  one_header_place = one_of (first_said (lines_of bytes))
