-- How the first line of a text, and the first word of a line, are taken off.
use Rattle.std.proofs.Common.{◌≡◌, ◌∙◌, ◌+◌, ◌-◌, ◌<◌, ◌≤◌, ℕ, Bool, true, false, not, cond, ◌==◌, List, [], ◌∷◌, length, take, drop, refl, sym, ap, arith}
use Rattle.std.proofs.lemmas.List.{take_rest}
use Rattle.std.specs.List.{prefix_len, slice_split, onto_first, filter}
use Rattle.lemmas.proofs.Numbers.{one_more}
use Rattle.moves.specs.Lists.{is_empty}
use Rattle.run_file_words.specs.Text.{lines_of, is_blank, words_of}

-- ---- parts

-- the parts behind a first part, where this is what is left
pub parts_behind : (ℕ → Bool) → List ℕ → List (List ℕ)
parts_behind p [] = []
parts_behind p (b ∷ bs) = slice_split p bs

pub nothing_behind : (p : ℕ → Bool) → parts_behind p [] ≡ []
unfolding parts_behind
nothing_behind p = refl

pub something_behind : (p : ℕ → Bool) (b : ℕ) (bs : List ℕ) → parts_behind p (b ∷ bs) ≡ slice_split p bs
unfolding parts_behind
something_behind p b bs = refl

first_part_by : (p : ℕ → Bool) (b : ℕ) (bs : List ℕ) (t : Bool) (n : ℕ) → slice_split p bs ≡ take n bs ∷ parts_behind p (drop n bs) →
    cond t ([] ∷ slice_split p bs) (onto_first b (slice_split p bs)) ≡ take (cond (not t) (1 + n) 0) (b ∷ bs) ∷ parts_behind p (drop (cond (not t) (1 + n) 0) (b ∷ bs))
unfolding parts_behind
first_part_by p b bs true n rest = refl
first_part_by p b bs false n rest = rw (one_more n) (ap (onto_first b) rest)

-- the first part is the longest front without a divider
pub first_part : (p : ℕ → Bool) (bs : List ℕ) →
    slice_split p bs ≡ take (prefix_len (λ b. not (p b)) bs) bs ∷ parts_behind p (drop (prefix_len (λ b. not (p b)) bs) bs)
unfolding parts_behind
first_part p [] = refl
first_part p (b ∷ bs) = first_part_by p b bs (p b) (prefix_len (λ c. not (p c)) bs) (first_part p bs)

-- ---- words

-- these bytes begin with a byte that is a blank, or with one that is none, or there are none
abbrev pub Begins : Bool → List ℕ → Type 0
Begins t [] = Unit {0}
Begins t (b ∷ bs) = is_blank b ≡ t

behind_blanks_by : (b : ℕ) (bs : List ℕ) (t : Bool) (n : ℕ) → is_blank b ≡ t → Begins false (drop n bs) → Begins false (drop (cond t (1 + n) 0) (b ∷ bs))
behind_blanks_by b bs true n is rest = rw (one_more n) rest
behind_blanks_by b bs false n is rest = is

pub behind_blanks : (bs : List ℕ) → Begins false (drop (prefix_len is_blank bs) bs)
behind_blanks [] = tt
behind_blanks (b ∷ bs) = behind_blanks_by b bs (is_blank b) (prefix_len is_blank bs) refl (behind_blanks bs)

behind_word_by : (b : ℕ) (bs : List ℕ) (t : Bool) (n : ℕ) → is_blank b ≡ t → Begins true (drop n bs) → Begins true (drop (cond (not t) (1 + n) 0) (b ∷ bs))
behind_word_by b bs true n is rest = is
behind_word_by b bs false n is rest = rw (one_more n) rest

pub behind_word : (bs : List ℕ) → Begins true (drop (prefix_len (λ b. not (is_blank b)) bs) bs)
behind_word [] = tt
behind_word (b ∷ bs) = behind_word_by b bs (is_blank b) (prefix_len (λ c. not (is_blank c)) bs) refl (behind_word bs)

without_blank_by : (b : ℕ) (bs : List ℕ) (t : Bool) → t ≡ true →
    filter (λ w. not (is_empty w)) (cond t ([] ∷ slice_split is_blank bs) (onto_first b (slice_split is_blank bs))) ≡ filter (λ w. not (is_empty w)) (slice_split is_blank bs)
without_blank_by b bs true is = refl
without_blank_by b bs false is = absurd cc

-- a blank in front says nothing
pub without_blank : (b : ℕ) (bs : List ℕ) → is_blank b ≡ true → words_of (b ∷ bs) ≡ words_of bs
unfolding words_of
without_blank b bs is = without_blank_by b bs (is_blank b) is

without_blanks_by : (b : ℕ) (bs : List ℕ) (t : Bool) (n : ℕ) → is_blank b ≡ t → words_of bs ≡ words_of (drop n bs) →
    words_of (b ∷ bs) ≡ words_of (drop (cond t (1 + n) 0) (b ∷ bs))
without_blanks_by b bs true n is rest = without_blank b bs is ∙ (rest ∙ rw (one_more n) refl)
without_blanks_by b bs false n is rest = refl

pub without_blanks : (bs : List ℕ) → words_of bs ≡ words_of (drop (prefix_len is_blank bs) bs)
without_blanks [] = refl
without_blanks (b ∷ bs) = without_blanks_by b bs (is_blank b) (prefix_len is_blank bs) refl (without_blanks bs)

pub no_words : words_of [] ≡ []
unfolding words_of
no_words = refl

-- behind a word stand the other words
words_behind : (bs : List ℕ) → Begins true bs → filter (λ w. not (is_empty w)) (parts_behind is_blank bs) ≡ words_of bs
unfolding parts_behind words_of
words_behind [] begins = refl
words_behind (b ∷ bs) begins = sym (without_blank b bs begins)

word_len : List ℕ → ℕ
word_len bs = prefix_len (λ b. not (is_blank b)) bs

cut_word : (bs : List ℕ) → words_of bs ≡ filter (λ w. not (is_empty w)) (take (prefix_len (λ b. not (is_blank b)) bs) bs ∷ parts_behind is_blank (drop (prefix_len (λ b. not (is_blank b)) bs) bs))
unfolding words_of
cut_word bs = ap (filter (λ w. not (is_empty w))) (first_part is_blank bs)

some_word : (w : List ℕ) (ws : List (List ℕ)) → (length w ≡ 0 → ⊥) → filter (λ v. not (is_empty v)) (w ∷ ws) ≡ w ∷ filter (λ v. not (is_empty v)) ws
some_word [] ws some = absurd (some refl)
some_word (b ∷ bs) ws some = refl

-- the first word of bytes that begin with no blank
first_word : (bs : List ℕ) → (length (take (prefix_len (λ b. not (is_blank b)) bs) bs) ≡ 0 → ⊥) →
    words_of bs ≡ take (prefix_len (λ b. not (is_blank b)) bs) bs ∷ words_of (drop (prefix_len (λ b. not (is_blank b)) bs) bs)
first_word bs some =
    cut_word bs ∙ (some_word _ (parts_behind is_blank (drop (prefix_len (λ b. not (is_blank b)) bs) bs)) some ∙ ap (λ ws. take (prefix_len (λ b. not (is_blank b)) bs) bs ∷ ws) (words_behind _ (behind_word bs)))

pub a_word : (line : List ℕ) (words : List ℕ) → words ≡ drop (prefix_len is_blank line) line → (length (take (prefix_len (λ b. not (is_blank b)) words) words) ≡ 0 → ⊥) →
    words_of line ≡ take (prefix_len (λ b. not (is_blank b)) words) words ∷ words_of (drop (prefix_len (λ b. not (is_blank b)) words) words)
a_word line words e some = without_blanks line ∙ (ap words_of (sym e) ∙ first_word words some)

empty_by : (b : ℕ) (bs : List ℕ) (t : Bool) (n : ℕ) → t ≡ false → length (take (cond (not t) (1 + n) 0) (b ∷ bs)) ≡ 0 → ⊥
empty_by b bs true n is none = absurd cc
empty_by b bs false n is none = let e = rw (one_more n) at none in omega (arith, e)

empty_words : (bs : List ℕ) → Begins false bs → length (take (prefix_len (λ b. not (is_blank b)) bs) bs) ≡ 0 → words_of bs ≡ []
empty_words [] begins none = no_words
empty_words (b ∷ bs) begins none = absurd (empty_by b bs (is_blank b) (prefix_len (λ c. not (is_blank c)) bs) begins none)

pub no_word : (line : List ℕ) (words : List ℕ) → words ≡ drop (prefix_len is_blank line) line → length (take (prefix_len (λ b. not (is_blank b)) words) words) ≡ 0 → words_of line ≡ []
no_word line words e none =
    without_blanks line ∙ (ap words_of (sym e) ∙ empty_words words (rw e (behind_blanks line)) none)

-- ---- lines

only_part : (p : ℕ → Bool) (rest : List ℕ) → length rest < 1 → parts_behind p rest ≡ []
unfolding parts_behind
only_part p [] short = refl
only_part p (b ∷ bs) short = absurd (omega (arith, short))

more_parts : (p : ℕ → Bool) (rest : List ℕ) → 1 ≤ length rest → parts_behind p rest ≡ slice_split p (drop 1 rest)
unfolding parts_behind
more_parts p [] long = absurd (omega (arith, long))
more_parts p (b ∷ bs) long = refl

pub last_line : (text line rest : List ℕ) → line ≡ take (prefix_len (λ b. not (b == 10)) text) text → rest ≡ drop (prefix_len (λ b. not (b == 10)) text) text →
    length rest < 1 → lines_of text ≡ line ∷ []
last_line text line rest front back short = rw front (first_part (λ b. b == 10) text ∙ ap (λ ls. take (prefix_len (λ b. not (b == 10)) text) text ∷ ls) (only_part (λ b. b == 10) _ (rw back at short)))

pub line_and_more : (text line rest : List ℕ) → line ≡ take (prefix_len (λ b. not (b == 10)) text) text → rest ≡ drop (prefix_len (λ b. not (b == 10)) text) text →
    1 ≤ length rest → lines_of text ≡ line ∷ lines_of (take (length rest - 1) (drop 1 rest))
line_and_more text line rest front back long =
    rw (front, take_rest rest 1, back) (first_part (λ b. b == 10) text ∙ ap (λ ls. take (prefix_len (λ b. not (b == 10)) text) text ∷ ls) (more_parts (λ b. b == 10) _ (rw back at long)))
