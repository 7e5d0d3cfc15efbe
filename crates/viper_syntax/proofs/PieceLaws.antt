-- What a piece can be by its first byte, and that bytes are at most one piece.
use Rattle.std.proofs.Common.{◌≡◌, ◌∙◌, ◌≢◌, ℕ, true, false, cond, refl, ap, sym, subst, arith, inl, inr, List, [], ◌∷◌, ◌++◌, length, drop, Some, suc, add-one, pos}
use Rattle.std.specs.Prelude.{slice_get, ◌⊎◌, ◌&&◌, find, nat_eq, nat_lt}
use Rattle.std.specs.Char.{is_ascii_digit}
use Rattle.std.specs.List.{list_all}
use Rattle.std.specs.Str.{bytes_eq}
use Rattle.std.proofs.lemmas.Bool.Decides.{nat_tests}
use Rattle.std.proofs.lemmas.Option.{same_Some}
use Rattle.lemmas.proofs.Tests.{left_true}
use Rattle.lemmas.proofs.Options.{none_some}
use Rattle.vb_base.specs.Names.{is_name, is_name_start}
use Rattle.viper_syntax.specs.declared.tokens.Sign.{Sign}
use Rattle.viper_syntax.specs.declared.tokens.Sign.TheVariants as s
use Rattle.viper_syntax.specs.declared.tokens.Word.{Word}
use Rattle.viper_syntax.specs.declared.tokens.Word.TheVariants as w
use Rattle.viper_syntax.specs.declared.tokens.Tok.{Tok}
use Rattle.viper_syntax.specs.declared.tokens.Tok.TheVariants as k
use Rattle.viper_syntax.specs.Spelling.{word_text, sign_text, is_blank, decimal}
use Rattle.viper_syntax.specs.Piece.{IsDigits, IsToken, word, name, number, sign, Piece, Skipped, Taken, IsComment, line, closed, unclosed, IsPiece, blank, comment, token, HasNoClose, ClosesAt}
use Rattle.viper_syntax.specs.First.{words}
use Rattle.viper_syntax.specs.Longest.{signs}

-- first bytes

pub data Class : Type 0 where
  Blank : Class
  Letter : Class
  Digit : Class
  Other : Class

abbrev pub class : ℕ → Class
class b = cond (is_blank b) Blank (cond (is_name_start b) Letter (cond (is_ascii_digit b) Digit Other))

abbrev head_of : List ℕ → ℕ
head_of [] = 0
head_of (b ∷ bs) = b

word_class : (v : Word) → class (head_of (word_text v)) ≡ Letter
word_class w.Field = refl
word_class _ = refl

sign_class : (v : Sign) → class (head_of (sign_text v)) ≡ Other
sign_class s.OpenParen = refl
sign_class _ = refl

pub word_form : (v : Word) → is_name (word_text v) ≡ true
word_form w.Field = refl
word_form _ = refl

pub blank_class : (b : ℕ) → is_blank b ≡ true → class b ≡ Blank
blank_class b h = rw h refl

not_blank_from_start : (b : ℕ) → is_name_start b ≡ true → is_blank b ≡ false
not_blank_from_start b h = grind (arith, nat_tests)

not_blank_from_digit : (b : ℕ) → is_ascii_digit b ≡ true → is_blank b ≡ false
not_blank_from_digit b h = grind (arith, nat_tests)

pub not_start_from_digit : (b : ℕ) → is_ascii_digit b ≡ true → is_name_start b ≡ false
not_start_from_digit b h = grind (arith, nat_tests)

pub start_class : (b : ℕ) → is_name_start b ≡ true → class b ≡ Letter
start_class b h = rw (not_blank_from_start b h, h) refl

pub digit_class : (b : ℕ) → is_ascii_digit b ≡ true → class b ≡ Digit
digit_class b h = rw (not_blank_from_digit b h, not_start_from_digit b h, h) refl

-- what a piece is that begins with a byte of a class

pub data IsNamed (bs : List ℕ) : Piece → Type 0 where
  word_named : (v : Word) → bs ≡ word_text v → IsNamed bs (Taken (k.Word v))
  name_named : ((v : Word) → bs ≢ word_text v) → IsNamed bs (Taken (k.Name bs))

abbrev pub Kind : Class → List ℕ → Piece → Type 0
Kind Blank bs p = (length bs ≡ 1) × (p ≡ Skipped)
Kind Letter bs p = (is_name bs ≡ true) × IsNamed bs p
Kind Digit bs p = IsDigits bs × (p ≡ Taken (k.Number (pos (decimal bs))))
Kind Other bs p = IsComment bs p ⊎ ((v : Sign) × (bs ≡ sign_text v) × (p ≡ Taken (k.Sign v)))

kind_of_token : (b : ℕ) (bs : List ℕ) (t : Tok) → IsToken (b ∷ bs) t → Kind (class b) (b ∷ bs) (Taken t)
kind_of_token b bs t (word v e) =
    rw (ap (λ us. class (head_of us)) e ∙ word_class v) (ap is_name e ∙ word_form v, word_named v e)
kind_of_token b bs t (name h no_word) = rw (start_class b (left_true _ _ h)) (h, name_named no_word)
kind_of_token b bs t (number h) = rw (digit_class b (first_digit b bs h)) (h, refl) where
  first_digit : (b : ℕ) (bs : List ℕ) → IsDigits (b ∷ bs) → is_ascii_digit b ≡ true
  first_digit b bs h = left_true (is_ascii_digit b) (list_all is_ascii_digit bs) h
kind_of_token b bs t (sign v e) = rw (ap (λ us. class (head_of us)) e ∙ sign_class v) (inr (v, e, refl))

comment_first : (b : ℕ) (bs : List ℕ) (p : Piece) → IsComment (b ∷ bs) p → b ≡ 47
comment_first b bs p (line text e h) = ap head_of e
comment_first b bs p (closed text e h) = ap head_of e
comment_first b bs p (unclosed text e h) = ap head_of e

pub kind_of : (b : ℕ) (bs : List ℕ) (p : Piece) → IsPiece (b ∷ bs) p → Kind (class b) (b ∷ bs) p
kind_of b bs p (blank c e h) = rw (blank_class b (subst (λ x. is_blank x ≡ true) (sym (ap head_of e)) h)) (ap length e, refl)
kind_of b bs p (comment h) = rw (ap class (comment_first b bs p h)) (inl h)
kind_of b bs p (token {t = t} h) = kind_of_token b bs t h

sign_long : (v : Sign) → nat_lt 0 (length (sign_text v)) ≡ true
sign_long s.OpenParen = refl
sign_long _ = refl

false_true : false ≡ true → ⊥
false_true e = cc

-- no piece is empty
pub piece_not_empty : (p : Piece) → IsPiece [] p → ⊥
piece_not_empty p (blank c e h) = cc
piece_not_empty p (comment (line text e h)) = cc
piece_not_empty p (comment (closed text e h)) = cc
piece_not_empty p (comment (unclosed text e h)) = cc
piece_not_empty p (token (word v e)) = false_true (ap is_name e ∙ word_form v)
piece_not_empty p (token (name h no_word)) = false_true h
piece_not_empty p (token (number h)) = h
piece_not_empty p (token (sign v e)) = false_true (ap (λ us. nat_lt 0 (length us)) e ∙ sign_long v)

-- one text is at most one piece

pub word_found : (v : Word) → find (λ u. bytes_eq (word_text v) (word_text u)) words ≡ Some v
word_found w.Field = refl
word_found _ = refl

pub sign_found : (v : Sign) → find (λ u. bytes_eq (sign_text v) (sign_text u)) signs ≡ Some v
sign_found s.OpenParen = refl
sign_found _ = refl

pub same_word : (u v : Word) → word_text u ≡ word_text v → u ≡ v
same_word u v e = same_Some u v (sym (word_found u) ∙ ap (λ us. find (λ x. bytes_eq us (word_text x)) words) e ∙ word_found v)

pub same_sign : (u v : Sign) → sign_text u ≡ sign_text v → u ≡ v
same_sign u v e = same_Some u v (sym (sign_found u) ∙ ap (λ us. find (λ x. bytes_eq us (sign_text x)) signs) e ∙ sign_found v)

-- a sign that begins with `/` is that byte alone
slash_alone : (v : Sign) → (nat_eq (head_of (sign_text v)) 47 && nat_lt 1 (length (sign_text v))) ≡ false
slash_alone s.OpenParen = refl
slash_alone _ = refl

pub slash_sign : (v : Sign) (bs : List ℕ) → 47 ∷ bs ≡ sign_text v → bs ≡ []
slash_sign v [] e = refl
slash_sign v (b ∷ bs) e = absurd (false_true (sym (ap (λ us. nat_eq (head_of us) 47 && nat_lt 1 (length us)) e ∙ slash_alone v) ∙ two_long bs)) where
  two_long : (bs : List ℕ) → (nat_eq 47 47 && nat_lt 1 (length (47 ∷ b ∷ bs))) ≡ true
  two_long bs = grind (arith, nat_tests)

-- the second byte of a comment
comment_second : (bs : List ℕ) (p : Piece) → IsComment bs p → (slice_get bs 1 ≡ Some 47) ⊎ (slice_get bs 1 ≡ Some 42)
comment_second bs p (line text e h) = inl (ap (λ us. slice_get us 1) e)
comment_second bs p (closed text e h) = inr (ap (λ us. slice_get us 1) e)
comment_second bs p (unclosed text e h) = inr (ap (λ us. slice_get us 1) e)

no_comment_and_sign : (b : ℕ) (bs : List ℕ) (p : Piece) (v : Sign) → IsComment (b ∷ bs) p → b ∷ bs ≡ sign_text v → ⊥
no_comment_and_sign b bs p v h e = too_short (comment_second (b ∷ bs) p h) where
  rest_empty : bs ≡ []
  rest_empty = slash_sign v bs (ap (λ x. x ∷ bs) (sym (comment_first b bs p h)) ∙ e)

  too_short : (slice_get (b ∷ bs) 1 ≡ Some 47) ⊎ (slice_get (b ∷ bs) 1 ≡ Some 42) → ⊥
  too_short (inl f) = absurd (none_some (rw rest_empty at f))
  too_short (inr f) = absurd (none_some (rw rest_empty at f))

closed_is_closed : (us text : List ℕ) → us ≡ text ++ 42 ∷ 47 ∷ [] → HasNoClose us → ⊥
closed_is_closed us text e h = h (length text) (rw e (close_at_end text)) where
  close_at_end : (text : List ℕ) → ClosesAt (text ++ 42 ∷ 47 ∷ []) (length text)
  close_at_end [] = (refl, refl)
  close_at_end (b ∷ text) = let rest = close_at_end text in (rest.0, rw (add-one (suc (length text))) (rw (add-one (length text)) at rest.1))

third_on : {b c d e : ℕ} {us vs : List ℕ} → b ∷ c ∷ us ≡ d ∷ e ∷ vs → us ≡ vs
third_on h = ap (λ us. drop 2 us) h

one_comment : (bs : List ℕ) (p q : Piece) → IsComment bs p → IsComment bs q → p ≡ q
one_comment bs p q (line t e h) (line u f g) = refl
one_comment bs p q (line t e h) (closed u f g) = refl
one_comment bs p q (line t e h) (unclosed u f g) = absurd (two_bytes (sym e ∙ f)) where
  two_bytes : 47 ∷ 47 ∷ t ≡ 47 ∷ 42 ∷ u → ⊥
  two_bytes e = false_true (sym (ap (λ us. nat_eq 47 (head_of (drop 1 us))) e) ∙ refl)
one_comment bs p q (closed t e h) (line u f g) = refl
one_comment bs p q (closed t e h) (closed u f g) = refl
one_comment bs p q (closed t e h) (unclosed u f g) = absurd (closed_is_closed u t (sym (third_on (sym e ∙ f))) g)
one_comment bs p q (unclosed t e h) (line u f g) = absurd (two_bytes (sym f ∙ e)) where
  two_bytes : 47 ∷ 47 ∷ u ≡ 47 ∷ 42 ∷ t → ⊥
  two_bytes e = false_true (sym (ap (λ us. nat_eq 47 (head_of (drop 1 us))) e) ∙ refl)
one_comment bs p q (unclosed t e h) (closed u f g) = absurd (closed_is_closed t u (sym (third_on (sym f ∙ e))) h)
one_comment bs p q (unclosed t e h) (unclosed u f g) = refl

one_named : (bs : List ℕ) (p q : Piece) → IsNamed bs p → IsNamed bs q → p ≡ q
one_named bs p q (word_named u e) (word_named v f) = ap (λ w. Taken (k.Word w)) (same_word u v (sym e ∙ f))
one_named bs p q (word_named u e) (name_named h) = absurd (h u e)
one_named bs p q (name_named h) (word_named v f) = absurd (h v f)
one_named bs p q (name_named h) (name_named g) = refl

one_kind : (c : Class) (b : ℕ) (bs : List ℕ) (p q : Piece) → Kind c (b ∷ bs) p → Kind c (b ∷ bs) q → p ≡ q
one_kind Blank b bs p q h g = h.1 ∙ sym g.1
one_kind Letter b bs p q h g = one_named (b ∷ bs) p q h.1 g.1
one_kind Digit b bs p q h g = h.1 ∙ sym g.1
one_kind Other b bs p q (inl h) (inl g) = one_comment (b ∷ bs) p q h g
one_kind Other b bs p q (inl h) (inr (v, e, is)) = absurd (no_comment_and_sign b bs p v h e)
one_kind Other b bs p q (inr (v, e, is)) (inl g) = absurd (no_comment_and_sign b bs q v g e)
one_kind Other b bs p q (inr (u, e, is)) (inr (v, f, js)) = is ∙ ap (λ w. Taken (k.Sign w)) (same_sign u v (sym e ∙ f)) ∙ sym js

pub one_piece : (bs : List ℕ) (p q : Piece) → IsPiece bs p → IsPiece bs q → p ≡ q
one_piece [] p q h g = absurd (piece_not_empty p h)
one_piece (b ∷ bs) p q h g = one_kind (class b) b bs p q (kind_of b bs p h) (kind_of b bs q g)
