-- The look-up of a word, and that a name without the bytes of one is no word of Viper.
use Rattle.std.proofs.Common.{◌≡◌, ◌∙◌, ◌≢◌, ℕ, Bool, true, false, refl, ap, sym, subst, arith, List, [], ◌∷◌, ◌++◌, map, Option}
use Rattle.std.specs.Prelude.{◌==◌, ◌||◌, MatchOption, find, slice_index}
use Rattle.std.specs.List.{filter, list_any}
use Rattle.std.specs.Str.{bytes_eq}
use Rattle.std.proofs.lemmas.Bool.{false≢true, false_from_ne_true}
use Rattle.std.proofs.lemmas.Bool.Decides.{nat_tests}
use Rattle.std.proofs.lemmas.Slice.Eq.{bytes_eq-Decides}
use Rattle.vb_base.specs.Names.{is_word, refused_words}
use Rattle.vb_base.proofs.Lookups.{looked_up}
use Rattle.viper_syntax.specs.declared.tokens.Word.{Word}
use Rattle.viper_syntax.specs.Spelling.{word_text}
use Rattle.viper_syntax.specs.First.{words, words_from, refused_words_from}
use Rattle.viper_syntax.proofs.PieceLaws.{word_found}

-- what passes the first test passes the second, so the others need not be looked at

module _ {X : Type 0} (p q : X → Bool) (implies : (x : X) → p x ≡ true → q x ≡ true) where
  found_in_filter : (xs : List X) → find p (filter q xs) ≡ find p xs
  found_in_filter [] = refl
  found_in_filter (x ∷ xs) = by_case (p x) (q x) refl refl (implies x) (found_in_filter xs) where
    by_case : (a b : Bool) → p x ≡ a → q x ≡ b → (p x ≡ true → q x ≡ true) → find p (filter q xs) ≡ find p xs →
        find p (filter q (x ∷ xs)) ≡ find p (x ∷ xs)
    by_case true true is has to rest = rw (has, is) refl
    by_case true false is has to rest = absurd (false≢true (sym has ∙ to is))
    by_case false true is has to rest = rw (has, is) rest
    by_case false false is has to rest = rw (has, is) rest

  any_in_filter : (xs : List X) → list_any p (filter q xs) ≡ list_any p xs
  any_in_filter [] = refl
  any_in_filter (x ∷ xs) = by_case (p x) (q x) refl refl (implies x) (any_in_filter xs) where
    by_case : (a b : Bool) → p x ≡ a → q x ≡ b → (p x ≡ true → q x ≡ true) → list_any p (filter q xs) ≡ list_any p xs →
        list_any p (filter q (x ∷ xs)) ≡ list_any p (x ∷ xs)
    by_case true true is has to rest = rw (has, is) refl
    by_case true false is has to rest = absurd (false≢true (sym has ∙ to is))
    by_case false true is has to rest = rw (has, is) rest
    by_case false false is has to rest = rw (has, is) rest

same_first : (x y : List ℕ) → bytes_eq x y ≡ true → (slice_index y 0 == slice_index x 0) ≡ true
same_first x y h = subst (λ z. (slice_index z 0 == slice_index x 0) ≡ true) ((bytes_eq-Decides x y).0 h) (eq_self (slice_index x 0)) where
  eq_self : (n : ℕ) → (n == n) ≡ true
  eq_self n = grind (arith, nat_tests)

-- what the look-up of a word answers, among all and among those that begin with the same byte
pub word_looked_up : (x : List ℕ) (o : Option Word) → o ≡ find (λ u. bytes_eq x (word_text u)) words → MatchOption o ((w : Word) → x ≢ word_text w) (λ w. x ≡ word_text w)
word_looked_up = looked_up word_text words word_found

pub word_looked_up_from : (x : List ℕ) (o : Option Word) → o ≡ find (λ u. bytes_eq x (word_text u)) (words_from (slice_index x 0)) →
    MatchOption o ((w : Word) → x ≢ word_text w) (λ w. x ≡ word_text w)
word_looked_up_from x o h =
    word_looked_up x o (h ∙ found_in_filter (λ u. bytes_eq x (word_text u)) (λ u. slice_index (word_text u) 0 == slice_index x 0) (λ u. same_first x (word_text u)) words)

any_of_map : {X Y : Type 0} (p : Y → Bool) (h : X → Y) (xs : List X) → list_any (λ x. p (h x)) xs ≡ list_any p (map h xs)
any_of_map p h [] = refl
any_of_map p h (x ∷ xs) = ap (λ b. p (h x) || b) (any_of_map p h xs)

-- and that of a refused word, among things whose texts begin with the same byte
pub refused_looked_up_from : {X : Type 0} (text : X → List ℕ) (x : List ℕ) (xs : List X) → map text xs ≡ refused_words_from (slice_index x 0) →
    list_any (λ w. bytes_eq x (text w)) xs ≡ list_any (bytes_eq x) refused_words
refused_looked_up_from text x xs h =
    any_of_map (bytes_eq x) text xs ∙ ap (list_any (bytes_eq x)) h ∙
    any_in_filter (bytes_eq x) (λ w. slice_index w 0 == slice_index x 0) (same_first x) refused_words

none_of : (x : List ℕ) (ws : List Word) → ((w : Word) → x ≢ word_text w) → list_any (bytes_eq x) refused_words ≡ false →
    list_any (bytes_eq x) (map word_text ws ++ refused_words) ≡ false
none_of x [] h none = none
none_of x (w ∷ ws) h none = rw (false_from_ne_true (bytes_eq x (word_text w)) (λ e. h w ((bytes_eq-Decides x (word_text w)).0 e))) (none_of x ws h none)

pub no_word : (x : List ℕ) → ((w : Word) → x ≢ word_text w) → (list_any (bytes_eq x) refused_words ≡ true → ⊥) → is_word x ≡ false
unfolding is_word
no_word x h none = none_of x words h (false_from_ne_true (list_any (bytes_eq x) refused_words) none)
