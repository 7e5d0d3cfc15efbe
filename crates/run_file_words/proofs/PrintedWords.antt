-- Words that are printed with a blank behind each, and lines that are printed one after the other.
use Rattle.std.proofs.Common.{◌≡◌, ◌∙◌, ◌<◌, ◌==◌, ℕ, Bool, true, false, not, List, [], ◌∷◌, ◌++◌, append_assoc, length, refl, sym, ap, arith}
use Rattle.std.specs.Prelude.{codes, filter, nat_lt, nat_eq}
use Rattle.std.specs.List.{list_all, slice_split, onto_first, starts_with}
use Rattle.std.proofs.lemmas.Bool.{and_parts, and_from}
use Rattle.std.proofs.lemmas.Bool.Decides.{nat_tests}
use Rattle.std.proofs.lemmas.List.{append-nil}
use Rattle.std.proofs.lemmas.List.Splits.{slice_split-cons_yes, slice_split-cons_no}
use Rattle.lemmas.proofs.Tests.{false_from_not}
use Rattle.lemmas.proofs.Lists.{list_all_append}
use Rattle.vb_base.specs.Names.{is_name, is_name_start, is_name_byte}
use Rattle.moves.specs.Lists.{is_empty}
use Rattle.run_file_words.specs.Text.{lines_of, is_blank, is_skipped, words_of, told}
use Rattle.run_file_words.proofs.WordLaws.{Begins, without_blank, no_words}

-- ---- bytes

pub all_of : (p q : ℕ → Bool) → ((b : ℕ) → p b ≡ true → q b ≡ true) → (bs : List ℕ) → list_all p bs ≡ true → list_all q bs ≡ true
all_of p q go [] all = refl
all_of p q go (b ∷ bs) all =
    let parts = and_parts (p b) (list_all p bs) all in
    and_from (q b) (list_all q bs) (go b parts.0) (all_of p q go bs parts.1)

-- a byte of a word, which is no blank and ends no line
abbrev pub is_word_byte : ℕ → Bool
is_word_byte b = nat_lt 32 b

abbrev pub is_line_byte : ℕ → Bool
is_line_byte b = not (b == 10)

no_blank : (b : ℕ) → is_word_byte b ≡ true → not (is_blank b) ≡ true
no_blank b is = grind (arith, nat_tests)

no_end : (b : ℕ) → is_word_byte b ≡ true → is_line_byte b ≡ true
no_end b is = grind (arith, nat_tests)

pub record IsWord (w : List ℕ) : Type 0 where
  pub some : 0 < length w
  pub bytes : list_all is_word_byte w ≡ true

-- ---- cuts

cut_behind : (p : ℕ → Bool) (w : List ℕ) (d : ℕ) (rest : List ℕ) → list_all (λ b. not (p b)) w ≡ true → p d ≡ true → slice_split p (w ++ d ∷ rest) ≡ w ∷ slice_split p rest
cut_behind p [] d rest none divides = slice_split-cons_yes p d rest divides
cut_behind p (b ∷ w) d rest none divides =
    let parts = and_parts (not (p b)) (list_all (λ c. not (p c)) w) none in
    slice_split-cons_no p b (w ++ d ∷ rest) (false_from_not (p b) parts.0) ∙ ap (onto_first b) (cut_behind p w d rest parts.1 divides)

uncut : (p : ℕ → Bool) (w : List ℕ) → list_all (λ b. not (p b)) w ≡ true → slice_split p w ≡ w ∷ []
uncut p [] none = refl
uncut p (b ∷ w) none =
    let parts = and_parts (not (p b)) (list_all (λ c. not (p c)) w) none in
    slice_split-cons_no p b w (false_from_not (p b) parts.0) ∙ ap (onto_first b) (uncut p w parts.1)

some_word : (w : List ℕ) (ws : List (List ℕ)) → 0 < length w → filter (λ v. not (is_empty v)) (w ∷ ws) ≡ w ∷ filter (λ v. not (is_empty v)) ws
some_word [] ws some = absurd (omega (arith, some))
some_word (b ∷ bs) ws some = refl

one_word : (w rest : List ℕ) → IsWord w → Begins true rest → words_of (w ++ rest) ≡ w ∷ words_of rest
unfolding words_of
one_word w [] h begins =
    ap words_of (append-nil w) ∙ (ap (filter (λ v. not (is_empty v))) (uncut is_blank w (all_of is_word_byte (λ b. not (is_blank b)) no_blank w h.bytes)) ∙ some_word w [] h.some)
one_word w (b ∷ rest) h begins =
    ap (filter (λ v. not (is_empty v))) (cut_behind is_blank w b rest (all_of is_word_byte (λ b. not (is_blank b)) no_blank w h.bytes) begins) ∙
    (some_word w (slice_split is_blank rest) h.some ∙ ap (λ ws. w ∷ ws) (sym (without_blank b rest begins)))

-- ---- parts of a line

-- these words, with a blank behind each
pub record IsFront (text : List ℕ) (ws : List (List ℕ)) : Type 0 where
  pub clean : list_all is_line_byte text ≡ true
  pub words : (rest : List ℕ) → words_of (text ++ rest) ≡ ws ++ words_of rest

-- these words, with a blank between them
pub record IsText (text : List ℕ) (ws : List (List ℕ)) : Type 0 where
  pub clean : list_all is_line_byte text ≡ true
  pub words : (rest : List ℕ) → Begins true rest → words_of (text ++ rest) ≡ ws ++ words_of rest

pub word_text : {w : List ℕ} → IsWord w → IsText w (w ∷ [])
word_text {w} h = record { clean = all_of is_word_byte is_line_byte no_end w h.bytes; words = λ rest begins. one_word w rest h begins }

pub no_front : IsFront [] []
no_front = record { clean = refl; words = λ rest. refl }

pub text_then : {a b : List ℕ} {ws vs : List (List ℕ)} → IsFront a ws → IsText b vs → IsText (a ++ b) (ws ++ vs)
text_then {a} {b} {ws} {vs} h k = record {
  clean = list_all_append is_line_byte a b h.clean k.clean;
  words = λ rest begins.
      ap words_of (append_assoc a b rest) ∙ (h.words (b ++ rest) ∙ (ap (λ x. ws ++ x) (k.words rest begins) ∙ sym (append_assoc ws vs (words_of rest))));
}

pub front_then : {a b : List ℕ} {ws vs : List (List ℕ)} → IsFront a ws → IsFront b vs → IsFront (a ++ b) (ws ++ vs)
front_then {a} {b} {ws} {vs} h k = record {
  clean = list_all_append is_line_byte a b h.clean k.clean;
  words = λ rest. ap words_of (append_assoc a b rest) ∙ (h.words (b ++ rest) ∙ (ap (λ x. ws ++ x) (k.words rest) ∙ sym (append_assoc ws vs (words_of rest))));
}

pub blank_behind : {a : List ℕ} {ws : List (List ℕ)} → IsText a ws → IsFront (a ++ codes " ") ws
blank_behind {a} {ws} h = record {
  clean = list_all_append is_line_byte a (codes " ") h.clean refl;
  words = λ rest. ap words_of (append_assoc a (codes " ") rest) ∙ (h.words (32 ∷ rest) refl ∙ ap (λ x. ws ++ x) (without_blank 32 rest refl));
}

-- ---- lines

-- the words of the lines of this text, whatever stands behind it
pub record Tells (text : List ℕ) (words : List (List (List ℕ))) : Type 0 where
  pub whole : (rest : List ℕ) → told (lines_of (text ++ rest)) ≡ words ++ told (lines_of rest)

pub tells_nothing : Tells [] []
tells_nothing = record { whole = λ rest. refl }

pub tells_then : {a b : List ℕ} {ws vs : List (List (List ℕ))} → Tells a ws → Tells b vs → Tells (a ++ b) (ws ++ vs)
tells_then {a} {b} {ws} {vs} h k = record {
  whole = λ rest.
      ap (λ x. told (lines_of x)) (append_assoc a b rest) ∙ (h.whole (b ++ rest) ∙ (ap (λ x. ws ++ x) (k.whole rest) ∙ sym (append_assoc ws vs (told (lines_of rest)))));
}

told_more : (line : List ℕ) (lines : List (List ℕ)) → is_skipped line ≡ false → told (line ∷ lines) ≡ words_of line ∷ told lines
told_more line lines e = rw e refl

pub line_told : (text w : List ℕ) (ws : List (List ℕ)) → IsText text (w ∷ ws) → starts_with nat_eq text (codes "//") ≡ false → Tells (text ++ codes "\n") ((w ∷ ws) ∷ [])
line_told text w ws h first =
    let words : words_of text ≡ w ∷ ws = ap words_of (sym (append-nil text)) ∙ (h.words [] tt ∙ (ap (λ x. (w ∷ ws) ++ x) no_words ∙ append-nil (w ∷ ws))) in
    let said : is_skipped text ≡ false = rw (first, words) refl in
    record {
      whole = λ rest.
          ap (λ x. told (lines_of x)) (append_assoc text (codes "\n") rest) ∙ (ap told (cut_behind (λ b. b == 10) text 10 rest h.clean refl) ∙
          (told_more text (lines_of rest) said ∙ ap (λ x. x ∷ told (lines_of rest)) words));
    }

-- ---- words of both formats

pub var_word : IsWord (codes "var")
var_word = record { some = omega arith; bytes = refl }

pub pick_word : IsWord (codes "pick")
pick_word = record { some = omega arith; bytes = refl }

pub value_keyword : IsWord (codes "value")
value_keyword = record { some = omega arith; bytes = refl }

pub run_word : IsWord (codes "run")
run_word = record { some = omega arith; bytes = refl }

-- a name is a word
name_byte : (b : ℕ) → is_name_byte b ≡ true → is_word_byte b ≡ true
name_byte b is = grind (arith, nat_tests)

start_byte : (b : ℕ) → is_name_start b ≡ true → is_word_byte b ≡ true
start_byte b is = grind (arith, nat_tests)

pub name_word : (name : List ℕ) → is_name name ≡ true → IsWord name
name_word [] is = absurd cc
name_word (b ∷ bs) is =
    let parts = and_parts (is_name_start b) (list_all is_name_byte bs) is in
    record { some = omega arith; bytes = word_bytes (start_byte b parts.0) (all_of is_name_byte is_word_byte name_byte bs parts.1) }
  where
    word_bytes : is_word_byte b ≡ true → list_all is_word_byte bs ≡ true → list_all is_word_byte (b ∷ bs) ≡ true
    word_bytes e f = rw (e, f) refl
