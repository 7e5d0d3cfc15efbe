-- What code reads at the front of a text is the piece there.
use Rattle.std.proofs.Common.{◌≡◌, ◌∙◌, ◌<◌, ◌≤◌, ◌+◌, ◌-◌, ◌*◌, ◌==◌, refl, sym, ap, subst, arith, ℕ, ℤ, pos, zero, suc, Bool, true, false, not, cond, List, [], ◌∷◌, length, take, drop, get_or, Option, Some, None, add-one}
use Rattle.std.specs.Char.{is_ascii_digit, digit_value}
use Rattle.std.specs.List.{prefix_len, starts_with, list_all}
use Rattle.std.specs.Str.Parse.{digits_value, digits_value_after}
use Rattle.std.proofs.lemmas.Bool.{cond-true, eqb-true, and_parts}
use Rattle.std.proofs.lemmas.Bool.Decides.{nat_tests}
use Rattle.lemmas.proofs.Numbers.{one_more}
use Rattle.vb_base.specs.declared.labels.Label.{Label}
use Rattle.vb_base.specs.Labels.{Spells}
use Rattle.vb_base.specs.Names.{is_name_byte}
use Rattle.vb_base.specs.Rows.{behind}
use Rattle.boogie_grammar.specs.declared.tokens.BSign.{BSign}
use Rattle.boogie_grammar.specs.declared.tokens.Lexeme.{Lexeme}
use Rattle.boogie_grammar.specs.declared.tokens.Lexeme.TheVariants as tok
use Rattle.boogie_grammar.specs.Words.{sign_text}
use Rattle.boogie_grammar.specs.Pieces as p
use Rattle.boogie_tree.specs.Literals.{max_literal}
use Rattle.boogie_grammar.specs.Pieces.{Blank, Letter, Digit, Quote, Other, is_blank, is_in_line, is_unquoted, is_point_zero, digits, literal, literal_length, sign_at, Piece}
use Rattle.boogie_grammar.specs.Step.{IsPiece, literal_of}
use Rattle.vb_base.proofs.Numbers.{all_digits, digits_of_front}
use Rattle.boogie_grammar.proofs.WrittenRows.{piece_as}

pub name_piece : (text bytes : List ℕ) (n : ℕ) → n ≡ prefix_len is_name_byte text → bytes ≡ take n text → Piece Letter text (Some (tok.Name bytes)) n
name_piece text bytes n len is =
    piece_as p.name refl (ap (λ x. Some (tok.Name x)) (sym (is ∙ ap (λ k. take k text) len))) (sym len)

-- labels

quote_at : (b : ℕ) (bytes : List ℕ) (t : Bool) → is_unquoted b ≡ t → (cond t (1 + prefix_len is_unquoted bytes) 0 ≡ suc (length bytes) → ⊥) →
    ((prefix_len is_unquoted bytes ≡ length bytes → ⊥) → (r : List ℕ) × (behind is_unquoted bytes ≡ 34 ∷ r)) →
    (r : List ℕ) × (drop (cond t (1 + prefix_len is_unquoted bytes) 0) (b ∷ bytes) ≡ 34 ∷ r)
quote_at b bytes true e more ih =
    let h = ih (λ same. more (one_more (prefix_len is_unquoted bytes) ∙ ap suc same)) in
    (h.0, ap (λ n. drop n (b ∷ bytes)) (one_more (prefix_len is_unquoted bytes)) ∙ h.1)
quote_at b bytes false e more ih = (bytes, ap (λ x. x ∷ bytes) (eqb-true b 34 (quoted (b == 34) e))) where
  quoted : (q : Bool) → not q ≡ false → q ≡ true
  quoted true h = refl
  quoted false h = absurd (cc)

quote_behind : (bytes : List ℕ) → (prefix_len is_unquoted bytes ≡ length bytes → ⊥) → (r : List ℕ) × (behind is_unquoted bytes ≡ 34 ∷ r)
quote_behind [] more = absurd (more refl)
quote_behind (b ∷ bytes) more = quote_at b bytes (is_unquoted b) refl more (quote_behind bytes)

pub text_piece : (rest : List ℕ) (n : ℕ) (l : Label) → n ≡ prefix_len is_unquoted rest → (n ≡ length rest → ⊥) → Spells (take n rest) l → Piece Quote (34 ∷ rest) (Some (tok.Text l)) (n + 2)
text_piece rest n l len more spelled =
    let quote = quote_behind rest (λ e. more (len ∙ e)) in
    piece_as (p.text (subst (λ k. Spells (take k rest) l) len spelled) quote.1) refl refl (ap (λ k. k + 2) (sym len))

-- comments and signs

slashes : (text : List ℕ) → starts_with ◌==◌ text (47 ∷ 47 ∷ []) ≡ true → text ≡ 47 ∷ 47 ∷ drop 2 text
slashes [] h = absurd (cc)
slashes (a ∷ []) h = absurd (let q : false ≡ true = (and_parts (47 == a) false h).1 in cc)
slashes (a ∷ b ∷ rest) h =
    let parts = and_parts _ _ h in
    let more = and_parts _ _ parts.1 in
    let e : 47 ≡ a = eqb-true 47 a parts.0 in
    let f : 47 ≡ b = eqb-true 47 b more.0 in
    ap (λ x. x ∷ b ∷ rest) (sym e) ∙ ap (λ x. 47 ∷ x ∷ rest) (sym f)

pub comment_piece : (text : List ℕ) (n : ℕ) → starts_with ◌==◌ text (47 ∷ 47 ∷ []) ≡ true → n ≡ prefix_len is_in_line (drop 2 text) → Piece Other text None (n + 2)
comment_piece text n h len =
    subst (λ x. Piece Other x None (n + 2)) (sym (slashes text h)) (piece_as p.comment refl refl (ap (λ k. k + 2) (sym len)))

pub no_sign : (text : List ℕ) → starts_with ◌==◌ text (47 ∷ 47 ∷ []) ≡ false → sign_at text ≡ None → (o : Option Lexeme) (n : ℕ) → Piece Other text o n → ⊥
no_sign text h none o n p.comment = cc
no_sign text h none o n (p.sign _ k) = let e = sym none ∙ k in cc

pub sign_piece : (text bytes : List ℕ) (o : BSign) → starts_with ◌==◌ text (47 ∷ 47 ∷ []) ≡ false → sign_at text ≡ Some o → bytes ≡ sign_text o → Piece Other text (Some (tok.Sign o)) (length bytes)
sign_piece text bytes o h k is = piece_as (p.sign h k) refl refl (ap length (sym is))

-- digits

digit_is : (c : ℕ) → is_ascii_digit c ≡ true → digit_value c ≡ c - 48
digit_is c h = grind (arith, nat_tests)

grows : (n : ℕ) (ds : List ℕ) → n ≤ digits_value_after 10 n ds
grows n [] = omega arith
grows n (d ∷ ds) = let h = grows (n * 10 + digit_value d) ds in omega (arith, h)

digit_at : (ds : List ℕ) (i : ℕ) → list_all is_ascii_digit ds ≡ true → i < length ds → is_ascii_digit (get_or ds i 0) ≡ true
digit_at [] i all lt = absurd (omega (arith, lt))
digit_at (d ∷ ds) zero all lt = (and_parts _ _ all).0
digit_at (d ∷ ds) (suc i) all lt = digit_at ds i (and_parts _ _ all).1 (omega (arith, lt))

after_at : (n : ℕ) (ds : List ℕ) (i : ℕ) → i < length ds → digits_value_after 10 n (drop i ds) ≡ digits_value_after 10 (n * 10 + digit_value (get_or ds i 0)) (drop (i + 1) ds)
after_at n [] i lt = absurd (omega (arith, lt))
after_at n (d ∷ ds) zero lt = refl
after_at n (d ∷ ds) (suc i) lt = rw (add-one (suc i)) (rw (add-one i) at (after_at n ds i (omega (arith, lt))))

-- one more digit
pub digit_step : (n i : ℕ) (ds : List ℕ) (whole : ℕ) → list_all is_ascii_digit ds ≡ true → i < length ds → digits_value_after 10 n (drop i ds) ≡ whole →
    digits_value_after 10 (n * 10 + (get_or ds i 0 - 48)) (drop (i + 1) ds) ≡ whole
digit_step n i ds whole all lt h =
    ap (λ v. digits_value_after 10 (n * 10 + v) (drop (i + 1) ds)) (sym (digit_is (get_or ds i 0) (digit_at ds i all lt))) ∙ sym (after_at n ds i lt) ∙ h

pub digit_grows : (n i : ℕ) (ds : List ℕ) (whole : ℕ) → list_all is_ascii_digit ds ≡ true → i < length ds → digits_value_after 10 n (drop i ds) ≡ whole → n * 10 + (get_or ds i 0 - 48) ≤ whole
digit_grows n i ds whole all lt h =
    let e = digit_step n i ds whole all lt h in
    let g = grows (n * 10 + (get_or ds i 0 - 48)) (drop (i + 1) ds) in
    omega (arith, e, g)

-- literals

pub front_digits : (text : List ℕ) (n : ℕ) → n ≡ prefix_len is_ascii_digit text → list_all is_ascii_digit (take n text) ≡ true
front_digits text n len = subst (λ k. list_all is_ascii_digit (take k text) ≡ true) (sym len) (all_digits (digits text) ∙ digits_of_front text)

literal_is : (b : Bool) (n : ℕ) → literal b n ≡ literal_of b (pos n)
literal_is true n = refl
literal_is false n = refl

pub number_piece : (text rest : List ℕ) (len : ℕ) (value : ℤ) (o : Option Lexeme) (n : ℕ) → len ≡ prefix_len is_ascii_digit text → rest ≡ drop len text →
    (value ≡ pos (digits_value 10 (take len text))) × (digits_value 10 (take len text) ≤ max_literal) →
    o ≡ Some (literal_of (is_point_zero rest) value) → n ≡ literal_length (is_point_zero rest) len → Piece Digit text o n
number_piece text rest len value o n e is small token count =
    let is_rest : rest ≡ behind is_ascii_digit text = is ∙ ap (λ k. drop k text) e in
    let is_front : take len text ≡ digits text = ap (λ k. take k text) e in
    let same : Some (literal (is_point_zero (behind is_ascii_digit text)) (digits_value 10 (digits text))) ≡ o =
    ap (λ x. Some x) (ap (λ b. literal b (digits_value 10 (digits text))) (ap is_point_zero (sym is_rest)) ∙ literal_is (is_point_zero rest) (digits_value 10 (digits text)) ∙
    ap (λ x. literal_of (is_point_zero rest) (pos (digits_value 10 x))) (sym is_front) ∙ ap (literal_of (is_point_zero rest)) (sym small.0)) ∙ sym token in
    let same_count : literal_length (is_point_zero (behind is_ascii_digit text)) (prefix_len is_ascii_digit text) ≡ n =
    ap (λ b. literal_length b (prefix_len is_ascii_digit text)) (ap is_point_zero (sym is_rest)) ∙ ap (literal_length (is_point_zero rest)) (sym e) ∙ sym count in
    piece_as (p.number (subst (λ x. digits_value 10 x ≤ max_literal) is_front small.1)) refl same same_count

-- blanks

pub blank_piece : (text : List ℕ) (b : ℕ) (rest : List ℕ) → text ≡ b ∷ rest → is_blank b ≡ true → IsPiece text None 1
blank_piece text b rest is h =
    subst (λ x. IsPiece x None 1) (sym is) (piece_as p.blank (cond-true (is_blank b) Blank _ h) refl refl)
