-- The header is the first line that is not skipped.
use Rattle.std.proofs.Common.{◌≡◌, ◌∙◌, ◌+◌, ◌≤◌, ◌==◌, inl, inr, ◌&&◌, ℕ, Bool, true, false, not, cond, List, [], ◌∷◌, ◌++◌, length, take, drop, Option, Some, None, refl, sym, ap, arith}
use Rattle.std.specs.Prelude.{codes, filter, map}
use Rattle.std.specs.Borrow.{Bor}
use Rattle.std.specs.Option.{option_map}
use Rattle.std.specs.Str.{bytes_eq}
use Rattle.std.proofs.lemmas.Bool.{and_parts, cases_order}
use Rattle.std.proofs.lemmas.List.{map-append, take-append-drop, take-take, take_all}
use Rattle.std.proofs.lemmas.List.Elements.{filter-append}
use Rattle.std.proofs.lemmas.List.Splits.{length-slice_split}
use Rattle.std.proofs.lemmas.Slice.Eq.{bytes_eq-Decides}
use Rattle.lemmas.proofs.Options.{some_same, none_some}
use Rattle.vb_base.specs.declared.places.Pos.{Pos}
use Rattle.run_file_words.specs.Text.{lines_of, told, is_skipped, words_of}
use Rattle.run_file_words.specs.Machine.{MayStand, WrongAt, bad_line, no_header}
use Rattle.run_file_boogie.specs.BoogieRun.{header, SpellName}
use Rattle.run_file_boogie.specs.BoogieProgress.{header_name, name_said}
use Rattle.run_file_boogie.specs.BoogieView.{FirstSaid, IsFirst}
use Rattle.run_file_words.proofs.ReadLaws.{turn}

first_same : {A : Type 0} {x y : A} {xs ys : List A} → x ∷ xs ≡ y ∷ ys → x ≡ y
first_same e = cc

pub not_nothing : {A : Type 0} {x : A} {xs : List A} → x ∷ xs ≡ [] → ⊥
not_nothing e = cc

pub no_front : {A : Type 0} (xs ys : List A) → xs ++ ys ≡ [] → xs ≡ []
no_front [] ys e = refl
no_front (x ∷ xs) ys e = absurd (not_nothing e)

-- ---- lines

told_append : (xs ys : List (List ℕ)) → told (xs ++ ys) ≡ told xs ++ told ys
told_append xs ys =
    ap (map words_of) (filter-append (λ l. not (is_skipped l)) xs ys) ∙ map-append words_of (filter (λ l. not (is_skipped l)) xs) (filter (λ l. not (is_skipped l)) ys)

pub told_split : (i : ℕ) (lines : List (List ℕ)) → told lines ≡ told (take i lines) ++ told (drop i lines)
told_split i lines = ap told (sym (take-append-drop i lines)) ∙ told_append (take i lines) (drop i lines)

told_front : (i j : ℕ) (lines : List (List ℕ)) → i ≤ j → told (take j lines) ≡ told (take i lines) ++ told (drop i (take j lines))
told_front i j lines below = told_split i (take j lines) ∙ ap (λ x. told x ++ told (drop i (take j lines))) (take-take i j lines below)

one_told : (text : List ℕ) (t : Bool) → is_skipped text ≡ t → told (text ∷ []) ≡ cond t [] (words_of text ∷ [])
one_told text true is = rw is refl
one_told text false is = rw is refl

told_more : (i : ℕ) (lines : List (List ℕ)) (text : List ℕ) → take (i + 1) lines ≡ take i lines ++ text ∷ [] → told (take i lines) ≡ [] → told (take (i + 1) lines) ≡ told (text ∷ [])
told_more i lines text taken so_far = ap told taken ∙ (told_append (take i lines) (text ∷ []) ∙ ap (λ x. x ++ told (text ∷ [])) so_far)

pub skipped_more : (i : ℕ) (lines : List (List ℕ)) (text : List ℕ) → take (i + 1) lines ≡ take i lines ++ text ∷ [] → told (take i lines) ≡ [] → is_skipped text ≡ true → told (take (i + 1) lines) ≡ []
skipped_more i lines text taken so_far skipped = told_more i lines text taken so_far ∙ one_told text true skipped

pub all_skipped : (i : ℕ) (lines : List (List ℕ)) → i ≡ length lines → told (take i lines) ≡ [] → told lines ≡ []
all_skipped i lines e so_far = rw (take_all i lines (omega arith)) at so_far

-- the words up to the first line that is said
pub told_first : {i : ℕ} {text : List ℕ} (lines : List (List ℕ)) → FirstSaid lines i text → told (take (i + 1) lines) ≡ words_of text ∷ []
told_first {i} {text} lines h = told_more i lines text (turn lines i text (drop (i + 1) lines) h.here).taken h.skipped ∙ one_told text false h.said

-- ---- headers

named_by : (a b w name : List ℕ) (t : Bool) → (bytes_eq a (codes "boogie") && bytes_eq b (codes "run")) ≡ t → cond t (Some w) None ≡ Some name → a ∷ b ∷ w ∷ [] ≡ header name
named_by a b w name false is e = absurd (none_some e)
named_by a b w name true is e =
    let parts = and_parts (bytes_eq a (codes "boogie")) (bytes_eq b (codes "run")) is in
    let first = (bytes_eq-Decides a (codes "boogie")).0 parts.0 in
    let second = (bytes_eq-Decides b (codes "run")).0 parts.1 in
    let third = some_same e in
    λ i. first i ∷ second i ∷ third i ∷ []

pub header_named : (words : List (List ℕ)) (name : List ℕ) → header_name words ≡ Some name → words ≡ header name
header_named [] name e = absurd (none_some e)
header_named (a ∷ []) name e = absurd (none_some e)
header_named (a ∷ b ∷ []) name e = absurd (none_some e)
header_named (a ∷ b ∷ w ∷ []) name e = named_by a b w name _ refl e
header_named (a ∷ b ∷ w ∷ c ∷ more) name e = absurd (none_some e)

not_header : (words : List (List ℕ)) (name : List ℕ) → header_name words ≡ None → words ≡ header name → ⊥
not_header words name none e = none_some (sym none ∙ ap header_name e)

same_name : (a b : List ℕ) → header a ≡ header b → a ≡ b
same_name a b e = some_same (ap header_name e)

-- ---- a file with a header

module _ (lines : List (List ℕ)) where
  pub one_name : {a b : List ℕ} → SpellName lines a → SpellName lines b → a ≡ b
  one_name {a} {b} h k = same_name a b (first_same (sym h.headed ∙ k.headed))

  front_by : (name : List ℕ) (i : ℕ) (ws : List (List (List ℕ))) → SpellName lines name → told (take i lines) ≡ ws → MayStand SpellName (take i lines)
  front_by name i [] h is = inl is
  front_by name i (w ∷ ws) h is =
      let first : header name ≡ w = first_same (sym h.headed ∙ (told_split i lines ∙ ap (λ x. x ++ told (drop i lines)) is)) in
      inr (name, record { words = ws; headed = is ∙ ap (λ x. x ∷ ws) (sym first) })

  -- each front of it may stand
  pub front_stands : (name : List ℕ) (i : ℕ) → SpellName lines name → MayStand SpellName (take i lines)
  front_stands name i h = front_by name i (told (take i lines)) h refl

  pub named : (line : ℕ) (o : Option (Bor (List ℕ))) (name : List ℕ) → IsFirst lines line o → name_said (option_map (λ w. w.now) o) ≡ Some name → SpellName lines name
  named line None name h e = absurd (none_some e)
  named line (Some text) name h e = record {
    words = told (drop (h.0 + 1) lines);
    headed = told_split (h.0 + 1) lines ∙ (ap (λ x. x ++ told (drop (h.0 + 1) lines)) (told_first lines h.1.1) ∙ ap (λ x. x ∷ told (drop (h.0 + 1) lines)) (header_named (words_of text.now) name e));
  }

  -- and one without
  pub no_may : (i : ℕ) (text : List ℕ) → FirstSaid lines i text → header_name (words_of text) ≡ None → (j : ℕ) → i + 1 ≤ j → MayStand SpellName (take j lines) → ⊥
  no_may i text h none j above (inl e) = not_nothing (ap (λ x. x ++ told (drop (i + 1) (take j lines))) (sym (told_first lines h)) ∙ (sym (told_front (i + 1) j lines above) ∙ e))
  no_may i text h none j above (inr k) =
      not_header (words_of text) k.0 none
      (first_same (ap (λ x. x ++ told (drop (i + 1) (take j lines))) (sym (told_first lines h)) ∙ (sym (told_front (i + 1) j lines above) ∙ k.1.headed)))

  pub not_named : (line : ℕ) (o : Option (Bor (List ℕ))) → IsFirst lines line o → name_said (option_map (λ w. w.now) o) ≡ None → (name : List ℕ) → SpellName lines name → ⊥
  not_named line None h none name k = not_nothing (sym k.headed ∙ h.0)
  not_named line (Some text) h none name k = no_may h.0 text.now h.1.1 none (h.0 + 1) (omega arith) (front_stands name (h.0 + 1) k)

  pub early : (i : ℕ) (text : List ℕ) → FirstSaid lines i text → (j : ℕ) → j + 1 ≤ i → told (take (j + 1) lines) ≡ []
  early i text h j below = no_front (told (take (j + 1) lines)) (told (drop (j + 1) (take i lines))) (sym (told_front (j + 1) i lines below) ∙ h.skipped)

-- ---- places

module _ (bytes : List ℕ) where
  pub never_wrong : (name : List ℕ) (at : Pos) → SpellName (lines_of bytes) name → WrongAt SpellName bytes at → ⊥
  never_wrong name at h (bad_line i within before after line col) = after (front_stands (lines_of bytes) name (i + 1) h)
  never_wrong name at h (no_header none line col) = not_nothing (sym h.headed ∙ none)

  pub wrong : (at : Pos) (o : Option (Bor (List ℕ))) → IsFirst (lines_of bytes) at.line o → name_said (option_map (λ w. w.now) o) ≡ None → at.col ≡ 1 → WrongAt SpellName bytes at
  wrong at None h none col = no_header h.0 (h.1 ∙ length-slice_split (λ b. b == 10) bytes) col
  wrong at (Some text) h none col =
      bad_line h.0 h.1.1.within (inl h.1.1.skipped) (no_may (lines_of bytes) h.0 text.now h.1.1 none (h.0 + 1) (omega arith)) h.1.0 col

  pub one_wrong : (line : ℕ) (o : Option (Bor (List ℕ))) (at : Pos) → IsFirst (lines_of bytes) line o → name_said (option_map (λ w. w.now) o) ≡ None → WrongAt SpellName bytes at → (at.line ≡ line) × (at.col ≡ 1)
  one_wrong line None at h none (bad_line i within before after at_line col) =
      absurd (after (inl (no_front (told (take (i + 1) (lines_of bytes))) (told (drop (i + 1) (lines_of bytes))) (sym (told_split (i + 1) (lines_of bytes)) ∙ h.0))))
  one_wrong line None at h none (no_header skipped at_line col) = (at_line ∙ (sym (length-slice_split (λ b. b == 10) bytes) ∙ sym h.1), col)
  one_wrong line (Some text) at h none (no_header skipped at_line col) =
      absurd (no_may (lines_of bytes) h.0 text.now h.1.1 none (h.0 + 1) (omega arith)
      (inl (no_front (told (take (h.0 + 1) (lines_of bytes))) (told (drop (h.0 + 1) (lines_of bytes))) (sym (told_split (h.0 + 1) (lines_of bytes)) ∙ skipped))))
  one_wrong line (Some text) at h none (bad_line j within before after at_line col) =
      elim (cases_order j h.0) [
        | inl same ↦ (at_line ∙ (ap (λ k. k + 1) same ∙ sym h.1.0), col)
        | inr (inl below) ↦ absurd (after (inl (early (lines_of bytes) h.0 text.now h.1.1 j (omega (arith, below)))))
        | inr (inr above) ↦ absurd (no_may (lines_of bytes) h.0 text.now h.1.1 none j (omega (arith, above)) before)
      ]
