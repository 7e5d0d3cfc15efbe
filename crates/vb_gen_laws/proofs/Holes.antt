-- The names and the numbers of the generated programs are cut as single tokens, whatever the number is.
use Rattle.std.proofs.Common.{◌≡◌, ◌∙◌, refl, sym, ap, subst, ℕ, suc, ◌^◌, ◌<◌, Bool, true, false, arith, List, [], ◌∷◌, ◌++◌, length, take, pos}
use Rattle.std.specs.Char.{is_ascii_digit}
use Rattle.std.specs.Fmt.{decimal}
use Rattle.std.specs.List.{list_all}
use Rattle.std.specs.Str.{all_ascii_digits}
use Rattle.std.proofs.Math.Seq.{take-append_seam, drop-append_seam}
use Rattle.std.proofs.lemmas.Bool.{and_from, and_parts, and_right, or_left, or_right}
use Rattle.std.proofs.lemmas.Fmt.{decimal_nonempty, digits_decimal, digits_value-decimal}
use Rattle.std.proofs.lemmas.Int.{ints}
use Rattle.std.proofs.lemmas.List.{length-append}
use Rattle.std.proofs.lemmas.Str.Parse.{IsNumeralModel, numerals_by_fold, tells_all_ascii_digits}
use Rattle.viper_syntax.proofs.PieceLaws.{not_start_from_digit}
use Rattle.vb_base.specs.Names.{is_name_start, is_name_byte}
use Rattle.vb_base.proofs.Numbers.{digits, all_digits}
use Rattle.viper_syntax.specs.declared.tokens.Tok.{Tok}
use Rattle.viper_syntax.specs.declared.tokens.Tok.TheVariants as k
use Rattle.viper_syntax.specs.declared.tokens.Word.{Word}
use Rattle.viper_syntax.specs.declared.tokens.Word.TheVariants as w
use Rattle.viper_syntax.specs.Spelling as spelling
use Rattle.viper_syntax.specs.Spelling.{word_text}
use Rattle.viper_syntax.specs.Piece.{IsDigits, IsToken, name, number, Taken, IsPiece, token, IsLongest}
use Rattle.viper_syntax.specs.Cut.{IsSmall}
use Rattle.vb_gen_laws.proofs.Fronts.{goes_on, longest_of_piece}
use Rattle.vb_gen_laws.proofs.CutRun.{Lexes, next}
use Rattle.vb_gen_laws.proofs.Trees.{m_name}

-- ---- the text of a number

number_model : IsNumeralModel (λ ds. all_ascii_digits ds ≡ true) (spelling.decimal_from 0)
number_model = numerals_by_fold _ tells_all_ascii_digits spelling.decimal_from record { empty = λ n. refl; more = λ n c cs h. refl }

number_value : (n : ℕ) → n < 2 ^ 64 → spelling.decimal (decimal n) ≡ n
number_value n small = digits_value-decimal number_model n small

digits_only : (n : ℕ) → n < 2 ^ 64 → list_all is_ascii_digit (decimal n) ≡ true
digits_only n small = all_digits (decimal n) ∙ digits_decimal digits n small

-- ---- a piece behind which one byte more begins none

front_and_more : (xs : List ℕ) (c : ℕ) (rest : List ℕ) → take (suc (length xs)) (xs ++ c ∷ rest) ≡ xs ++ c ∷ []
front_and_more [] c rest = refl
front_and_more (x ∷ xs) c rest = ap (λ l. x ∷ l) (front_and_more xs c rest)

not_all : (p : ℕ → Bool) (xs : List ℕ) (c : ℕ) → p c ≡ false → list_all p (xs ++ c ∷ []) ≡ false
not_all p [] c h = rw h refl
not_all p (x ∷ xs) c h = and_right (p x) (list_all p (xs ++ c ∷ [])) (not_all p xs c h)

token_cut : (front : List ℕ) (c : ℕ) (rest : List ℕ) (t : Tok) (ts : List Tok) → IsToken front t → IsSmall t → goes_on (front ++ c ∷ []) ≡ false →
    Lexes (c ∷ rest) ts → Lexes (front ++ c ∷ rest) (t ∷ ts)
token_cut front c rest t ts is small ends h =
    let piece : IsPiece (take (length front) (front ++ c ∷ rest)) (Taken t) = subst (λ l. IsPiece l (Taken t)) (sym (take-append_seam front (c ∷ rest))) (token is) in
    let longest : IsLongest (front ++ c ∷ rest) (length front) (Taken t) =
    longest_of_piece (front ++ c ∷ rest) (length front) (Taken t) (rw length-append (omega arith)) piece (ap goes_on (front_and_more front c rest) ∙ ends) in
    next longest small (subst (λ l. Lexes l ts) (sym (drop-append_seam front (c ∷ rest))) h)

-- ---- a number

from_digits : (ds : List ℕ) → 0 < length ds → list_all is_ascii_digit ds ≡ true → IsDigits ds
from_digits [] long h = absurd (omega arith)
from_digits (d ∷ ds) long h = h

digit_ends : (d : ℕ) (us : List ℕ) → is_ascii_digit d ≡ true → list_all is_ascii_digit us ≡ false → goes_on (d ∷ us) ≡ false
digit_ends d [] h none = cc
digit_ends d (u ∷ us) h none = rw (not_start_from_digit d h, h) none

digits_end : (ds : List ℕ) (c : ℕ) → IsDigits ds → is_ascii_digit c ≡ false → goes_on (ds ++ c ∷ []) ≡ false
digits_end [] c h none = absurd h
digits_end (d ∷ ds) c h none = digit_ends d (ds ++ c ∷ []) (and_parts (is_ascii_digit d) (list_all is_ascii_digit ds) h).0 (not_all is_ascii_digit ds c none)

pub number_cut : (n c : ℕ) (rest : List ℕ) (ts : List Tok) → n < 2 ^ 64 → is_ascii_digit c ≡ false → Lexes (c ∷ rest) ts → Lexes (decimal n ++ c ∷ rest) (k.Number (pos n) ∷ ts)
number_cut n c rest ts small none h =
    let ds = from_digits (decimal n) (decimal_nonempty n small) (digits_only n small) in
    let is : IsToken (decimal n) (k.Number (pos n)) = subst (λ v. IsToken (decimal n) (k.Number (pos v))) (number_value n small) (number ds) in
    token_cut (decimal n) c rest (k.Number (pos n)) ts is (omega (arith, ints)) (digits_end (decimal n) c ds none) h

-- ---- a name

digit_is_byte : (b : ℕ) → is_ascii_digit b ≡ true → is_name_byte b ≡ true
digit_is_byte b h = or_left _ _ (or_right (is_name_start b) _ h)

digits_are_bytes : (ds : List ℕ) → list_all is_ascii_digit ds ≡ true → list_all is_name_byte ds ≡ true
digits_are_bytes [] h = refl
digits_are_bytes (d ∷ ds) h =
    let parts = and_parts (is_ascii_digit d) (list_all is_ascii_digit ds) h in
    and_from _ _ (digit_is_byte d parts.0) (digits_are_bytes ds parts.1)

-- the second byte is a digit
abbrev numbered : List ℕ → Bool
numbered [] = false
numbered (b ∷ []) = false
numbered (b ∷ c ∷ bs) = is_ascii_digit c

no_word_numbered : (v : Word) → numbered (word_text v) ≡ false
no_word_numbered w.Field = refl
no_word_numbered _ = refl

name_numbered : (ds : List ℕ) → IsDigits ds → numbered (109 ∷ ds) ≡ true
name_numbered [] h = absurd h
name_numbered (d ∷ ds) h = (and_parts (is_ascii_digit d) (list_all is_ascii_digit ds) h).0

true_false : true ≡ false → ⊥
true_false e = cc

name_end : (us : List ℕ) (c : ℕ) → is_name_byte c ≡ false → goes_on (109 ∷ (us ++ c ∷ [])) ≡ false
name_end [] c none = rw none refl
name_end (u ∷ us) c none = not_all is_name_byte (u ∷ us) c none

pub name_cut : (n c : ℕ) (rest : List ℕ) (ts : List Tok) → n < 2 ^ 64 → is_name_byte c ≡ false → Lexes (c ∷ rest) ts → Lexes (m_name n ++ c ∷ rest) (k.Name (m_name n) ∷ ts)
name_cut n c rest ts small none h =
    let all = digits_only n small in
    let ds = from_digits (decimal n) (decimal_nonempty n small) all in
    let no_word : (v : Word) → m_name n ≡ word_text v → ⊥ = λ v e. true_false (sym (name_numbered (decimal n) ds) ∙ ap numbered e ∙ no_word_numbered v) in
    token_cut (m_name n) c rest (k.Name (m_name n)) ts (name (digits_are_bytes (decimal n) all) no_word) tt (name_end (decimal n) c none) h
