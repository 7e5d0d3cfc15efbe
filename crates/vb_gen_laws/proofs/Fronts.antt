-- The longest piece with which bytes begin, by one byte more that begins no piece.
use Rattle.std.proofs.Common.{◌≡◌, ◌∙◌, refl, sym, ap, ℕ, zero, suc, ◌<◌, ◌≤◌, Bool, true, false, cond, arith, inl, inr, List, [], ◌∷◌, length, take}
use Rattle.std.specs.Prelude.{◌⊎◌, ◌&&◌, ◌||◌, nat_eq}
use Rattle.std.specs.Char.{is_ascii_digit}
use Rattle.std.specs.List.{list_all, list_any}
use Rattle.std.proofs.lemmas.Bool.{cases_lt, and_from, and_parts}
use Rattle.std.proofs.lemmas.Bool.Decides.{nat_tests}
use Rattle.std.proofs.lemmas.List.{take-take}
use Rattle.viper_syntax.proofs.PieceLaws.{not_start_from_digit, word_form}
use Rattle.vb_base.specs.Names.{is_name, is_name_start, is_name_byte}
use Rattle.viper_syntax.specs.declared.tokens.Sign.{Sign}
use Rattle.viper_syntax.specs.declared.tokens.Sign.TheVariants as s
use Rattle.viper_syntax.specs.Spelling.{word_text, sign_text, is_blank}
use Rattle.viper_syntax.specs.Piece.{IsDigits, word, name, number, sign, Piece, line, closed, unclosed, IsPiece, blank, comment, token, IsLongest}
use Rattle.viper_syntax.specs.Longest.{signs}

abbrev begins : List ℕ → List ℕ → Bool
begins [] vs = true
begins (u ∷ us) [] = false
begins (u ∷ us) (v ∷ vs) = nat_eq u v && begins us vs

-- bytes of which none is a letter or a digit are a front of a comment or of a sign
abbrev opens : ℕ → ℕ → List ℕ → Bool
opens b c bs = (nat_eq b 47 && (nat_eq c 47 || nat_eq c 42)) || list_any (λ o. begins (b ∷ c ∷ bs) (sign_text o)) signs

-- more than one byte are a front of some piece
abbrev pub goes_on : List ℕ → Bool
goes_on [] = true
goes_on (b ∷ []) = true
goes_on (b ∷ c ∷ bs) = cond (is_name_start b) (list_all is_name_byte (c ∷ bs)) (cond (is_ascii_digit b) (list_all is_ascii_digit (c ∷ bs)) (opens b c bs))

-- ---- each front of a piece is one

all_in_front : (p : ℕ → Bool) (k : ℕ) (xs : List ℕ) → list_all p xs ≡ true → list_all p (take k xs) ≡ true
all_in_front p zero xs h = refl
all_in_front p (suc k) [] h = refl
all_in_front p (suc k) (x ∷ xs) h = let parts = and_parts (p x) (list_all p xs) h in and_from _ _ parts.0 (all_in_front p k xs parts.1)

name_goes_on : (us : List ℕ) (k : ℕ) → is_name us ≡ true → goes_on (take k us) ≡ true
name_goes_on [] k h = cc
name_goes_on (b ∷ bs) zero h = refl
name_goes_on (b ∷ bs) (suc zero) h = refl
name_goes_on (b ∷ []) (suc (suc k)) h = refl
name_goes_on (b ∷ c ∷ bs) (suc (suc k)) h =
    let parts = and_parts (is_name_start b) (list_all is_name_byte (c ∷ bs)) h in
    rw parts.0 (all_in_front is_name_byte (suc k) (c ∷ bs) parts.1)

number_goes_on : (us : List ℕ) (k : ℕ) → IsDigits us → goes_on (take k us) ≡ true
number_goes_on [] k h = absurd h
number_goes_on (b ∷ bs) zero h = refl
number_goes_on (b ∷ bs) (suc zero) h = refl
number_goes_on (b ∷ []) (suc (suc k)) h = refl
number_goes_on (b ∷ c ∷ bs) (suc (suc k)) h =
    let parts = and_parts (is_ascii_digit b) (list_all is_ascii_digit (c ∷ bs)) h in
    rw (not_start_from_digit b parts.0, parts.0) (all_in_front is_ascii_digit (suc k) (c ∷ bs) parts.1)

sign_goes_on : (o : Sign) (k : ℕ) → goes_on (take k (sign_text o)) ≡ true
sign_goes_on s.OpenParen zero = refl
sign_goes_on _ zero = refl
sign_goes_on s.OpenParen (suc zero) = refl
sign_goes_on _ (suc zero) = refl
sign_goes_on s.OpenParen (suc (suc zero)) = refl
sign_goes_on _ (suc (suc zero)) = refl
sign_goes_on s.OpenParen (suc (suc (suc zero))) = refl
sign_goes_on _ (suc (suc (suc zero))) = refl
sign_goes_on s.OpenParen (suc (suc (suc (suc zero)))) = refl
sign_goes_on _ (suc (suc (suc (suc zero)))) = refl
sign_goes_on s.OpenParen (suc (suc (suc (suc (suc k))))) = refl
sign_goes_on _ (suc (suc (suc (suc (suc k))))) = refl

line_goes_on : (text : List ℕ) (k : ℕ) → goes_on (take k (47 ∷ 47 ∷ text)) ≡ true
line_goes_on text zero = refl
line_goes_on text (suc zero) = refl
line_goes_on text (suc (suc k)) = refl

comment_goes_on : (text : List ℕ) (k : ℕ) → goes_on (take k (47 ∷ 42 ∷ text)) ≡ true
comment_goes_on text zero = refl
comment_goes_on text (suc zero) = refl
comment_goes_on text (suc (suc k)) = refl

blank_goes_on : (b k : ℕ) → goes_on (take k (b ∷ [])) ≡ true
blank_goes_on b zero = refl
blank_goes_on b (suc zero) = refl
blank_goes_on b (suc (suc k)) = refl

piece_goes_on : (us : List ℕ) (k : ℕ) (q : Piece) → IsPiece us q → goes_on (take k us) ≡ true
piece_goes_on us k q (blank b e h) = rw e (blank_goes_on b k)
piece_goes_on us k q (comment (line text e h)) = rw e (line_goes_on text k)
piece_goes_on us k q (comment (closed text e h)) = rw e (comment_goes_on _ k)
piece_goes_on us k q (comment (unclosed text e h)) = rw e (comment_goes_on text k)
piece_goes_on us k q (token (word v e)) = rw e (name_goes_on (word_text v) k (word_form v))
piece_goes_on us k q (token (name h none)) = name_goes_on us k h
piece_goes_on us k q (token (number h)) = number_goes_on us k h
piece_goes_on us k q (token (sign o e)) = rw e (sign_goes_on o k)

-- ---- the longest piece

false_true : false ≡ true → ⊥
false_true e = cc

pub longest_of_piece : (bs : List ℕ) (n : ℕ) (p : Piece) → n ≤ length bs → IsPiece (take n bs) p → goes_on (take (suc n) bs) ≡ false → IsLongest bs n p
longest_of_piece bs n p within piece ends = record { within = within; piece = piece; longest = λ m q le h. at_most m q h (cases_lt n m) } where
  at_most : (m : ℕ) (q : Piece) → IsPiece (take m bs) q → (n < m) ⊎ (m ≤ n) → m ≤ n
  at_most m q h (inr le) = le
  at_most m q h (inl lt) =
      let on = piece_goes_on (take m bs) (suc n) q h in
      absurd (false_true (sym ends ∙ ap goes_on (sym (take-take (suc n) m bs lt)) ∙ on))

blank_ends : (b c : ℕ) → is_blank b ≡ true → goes_on (b ∷ c ∷ []) ≡ false
blank_ends b c h = by_case (blank_cases b h) where
  blank_cases : (b : ℕ) → is_blank b ≡ true → (b ≡ 9) ⊎ ((b ≡ 10) ⊎ ((b ≡ 13) ⊎ (b ≡ 32)))
  blank_cases b h = grind (arith, nat_tests)

  by_case : (b ≡ 9) ⊎ ((b ≡ 10) ⊎ ((b ≡ 13) ⊎ (b ≡ 32))) → goes_on (b ∷ c ∷ []) ≡ false
  by_case (inl e) = rw e refl
  by_case (inr (inl e)) = rw e refl
  by_case (inr (inr (inl e))) = rw e refl
  by_case (inr (inr (inr e))) = rw e refl
