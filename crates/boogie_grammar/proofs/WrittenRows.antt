-- What is written is cut where it should be: each piece ends before what follows it.
use Rattle.std.proofs.Common.{◌≡◌, ◌∙◌, ◌≤◌, ◌<◌, ◌^◌, ◌==◌, ◌||◌, ◌+◌, suc, pos, ℕ, Bool, true, false, List, [], ◌∷◌, ◌++◌, Option, Some, length, drop, codes, refl, sym, ap, subst, arith, inl, inr}
use Rattle.std.proofs.Math.Seq.{drop-append-add}
use Rattle.std.specs.Char.{is_ascii_digit}
use Rattle.std.specs.Fmt.{decimal}
use Rattle.std.specs.List.{prefix_len, list_all}
use Rattle.std.proofs.lemmas.Fmt.{decimal_is_IsNumeral_wide}
use Rattle.std.specs.Str.Parse.{digits_value}
use Rattle.std.proofs.lemmas.Bool.{or_cases, eqb-true, false_from_ne_true, both_ways, and_parts, and_from, or_left, or_right, ne_eqb, or_from, and_left, not_from_false, lt-leb, cond-true, cond-false, leb-true}
use Rattle.lemmas.proofs.Lists.{list_all_append}
use Rattle.vb_base.specs.declared.labels.Label.{Label}
use Rattle.vb_base.specs.Labels.{text_of, place_text, kind_text, Spells}
use Rattle.vb_base.specs.declared.places.Pos.{Pos}
use Rattle.vb_base.specs.declared.labels.Kind.{Kind}
use Rattle.vb_base.specs.declared.labels.Kind.TheVariants as kind
use Rattle.vb_base.proofs.Numbers.{digits, all_digits}
use Rattle.vb_base.specs.Names.{is_name_start, is_name_byte, is_name}
use Rattle.vb_base.specs.Rows.{behind}
use Rattle.vb_base.proofs.RowLaws.{prefix_len-append, front-append, behind-append}
use Rattle.boogie_tree.specs.declared.exprs.BOp.{BOp}
use Rattle.boogie_tree.specs.declared.exprs.BOp.TheVariants as op
use Rattle.boogie_grammar.specs.declared.tokens.BSign.TheVariants as sign
use Rattle.boogie_grammar.specs.declared.tokens.Lexeme.{Lexeme}
use Rattle.boogie_grammar.specs.declared.tokens.Lexeme.TheVariants as tok
use Rattle.boogie_grammar.specs.declared.tokens.PlacedLexeme.{PlacedLexeme}
use Rattle.boogie_grammar.specs.Words.{operator_tok}
use Rattle.boogie_grammar.specs.Pieces as p
use Rattle.boogie_tree.specs.Literals.{max_literal}
use Rattle.boogie_grammar.specs.Pieces.{Class, Letter, Digit, class_of, is_blank, is_unquoted, is_point_zero, literal, literal_length, Piece}
use Rattle.boogie_grammar.specs.Cut.{IsRow, more}
use Rattle.boogie_grammar.specs.Printed.{operator_text}

pub start : Pos
start = record { line = 1; col = 1; line_in_range = (omega arith, omega arith); col_in_range = (omega arith, omega arith) }

-- a token at some place
abbrev pub at_start : Lexeme → PlacedLexeme
at_start t = record { tok = t; pos = start }

-- a piece, told by its class, its token and its length
pub piece_as : {c d : Class} {bytes : List ℕ} {n m : ℕ} {o q : Option Lexeme} → Piece c bytes o n → d ≡ c → o ≡ q → n ≡ m → Piece d bytes q m
piece_as {c = c} {d = d} {bytes = bytes} {n = n} {m = m} {o = o} {q = q} piece class token len =
    subst (λ k. Piece d bytes q k) len (subst (λ x. Piece d bytes x n) token (subst (λ k. Piece k bytes o n) (sym class) piece))

-- no byte of a name, no digit and no `.0` comes first
pub record Ends (rest : List ℕ) : Type 0 where
  pub name_ends : prefix_len is_name_byte rest ≡ 0
  pub number_ends : prefix_len is_ascii_digit rest ≡ 0
  pub point_ends : is_point_zero rest ≡ false

-- names

blank_not_start : (b : ℕ) → is_blank b ≡ true → is_name_start b ≡ false
blank_not_start b h =
    elim (or_cases (b == 32 || b == 10 || b == 13) (b == 9) h) [
      | inl h1 ↦ elim (or_cases (b == 32 || b == 10) (b == 13) h1) [
        | inl h2 ↦ elim (or_cases (b == 32) (b == 10) h2) [
          | inl e ↦ rw (eqb-true b 32 e) refl
          | inr e ↦ rw (eqb-true b 10 e) refl
        ]
        | inr e ↦ rw (eqb-true b 13 e) refl
      ]
      | inr e ↦ rw (eqb-true b 9 e) refl
    ]

letter_class : (b : ℕ) → is_name_start b ≡ true → class_of b ≡ Letter
letter_class b start_byte =
    let no_blank : is_blank b ≡ false = false_from_ne_true (is_blank b) (λ h. both_ways (is_name_start b) (blank_not_start b h) start_byte) in
    cond-false (is_blank b) _ _ no_blank ∙ cond-true (is_name_start b) _ _ start_byte

pub name_row : (b : ℕ) (bytes rest : List ℕ) {ts : List PlacedLexeme} → is_name (b ∷ bytes) ≡ true → prefix_len is_name_byte rest ≡ 0 → IsRow rest ts →
    IsRow (b ∷ (bytes ++ rest)) (at_start (tok.Name (b ∷ bytes)) ∷ ts)
name_row b bytes rest {ts} form ends h =
    let parts = and_parts (is_name_start b) (list_all is_name_byte bytes) form in
    let all : list_all is_name_byte (b ∷ bytes) ≡ true = and_from _ _ (or_left _ _ (or_left _ _ parts.0)) parts.1 in
    more start (piece_as p.name (letter_class b parts.0) (ap (λ x. Some (tok.Name x)) (front-append is_name_byte (b ∷ bytes) rest all ends)) refl)
    (subst (λ r. IsRow r ts) (sym (behind-append is_name_byte (b ∷ bytes) rest all ends)) h)

pub free_row : (name rest : List ℕ) {ts : List PlacedLexeme} → is_name name ≡ true → prefix_len is_name_byte rest ≡ 0 → IsRow rest ts → IsRow (name ++ rest) (at_start (tok.Name name) ∷ ts)
free_row [] rest form ends h = absurd (cc)
free_row (b ∷ bytes) rest form ends h = name_row b bytes rest form ends h

-- blanks

pub blank_row : {rest : List ℕ} {ts : List PlacedLexeme} → IsRow rest ts → IsRow (32 ∷ rest) ts
blank_row h = more start p.blank h

pub line_row : {rest : List ℕ} {ts : List PlacedLexeme} → IsRow rest ts → IsRow (10 ∷ rest) ts
line_row h = more start p.blank h

-- signs

pub open_row : {rest : List ℕ} {ts : List PlacedLexeme} → IsRow rest ts → IsRow (40 ∷ rest) (at_start (tok.Sign sign.OpenParen) ∷ ts)
open_row h = more start (p.sign refl refl) h

pub close_row : {rest : List ℕ} {ts : List PlacedLexeme} → IsRow rest ts → IsRow (41 ∷ rest) (at_start (tok.Sign sign.CloseParen) ∷ ts)
close_row h = more start (p.sign refl refl) h

pub bracket_row : {rest : List ℕ} {ts : List PlacedLexeme} → IsRow rest ts → IsRow (91 ∷ rest) (at_start (tok.Sign sign.OpenBracket) ∷ ts)
bracket_row h = more start (p.sign refl refl) h

pub end_row : {rest : List ℕ} {ts : List PlacedLexeme} → IsRow rest ts → IsRow (93 ∷ rest) (at_start (tok.Sign sign.CloseBracket) ∷ ts)
end_row h = more start (p.sign refl refl) h

pub begin_row : {rest : List ℕ} {ts : List PlacedLexeme} → IsRow rest ts → IsRow (123 ∷ rest) (at_start (tok.Sign sign.OpenBrace) ∷ ts)
begin_row h = more start (p.sign refl refl) h

pub finish_row : {rest : List ℕ} {ts : List PlacedLexeme} → IsRow rest ts → IsRow (125 ∷ rest) (at_start (tok.Sign sign.CloseBrace) ∷ ts)
finish_row h = more start (p.sign refl refl) h

pub comma_row : {rest : List ℕ} {ts : List PlacedLexeme} → IsRow rest ts → IsRow (44 ∷ rest) (at_start (tok.Sign sign.Comma) ∷ ts)
comma_row h = more start (p.sign refl refl) h

pub semicolon_row : {rest : List ℕ} {ts : List PlacedLexeme} → IsRow rest ts → IsRow (59 ∷ rest) (at_start (tok.Sign sign.Semicolon) ∷ ts)
semicolon_row h = more start (p.sign refl refl) h

pub star_row : {rest : List ℕ} {ts : List PlacedLexeme} → IsRow rest ts → IsRow (42 ∷ rest) (at_start (tok.Sign sign.Star) ∷ ts)
star_row h = more start (p.sign refl refl) h

pub minus_row : {rest : List ℕ} {ts : List PlacedLexeme} → IsRow rest ts → IsRow (45 ∷ rest) (at_start (tok.Sign sign.Minus) ∷ ts)
minus_row h = more start (p.sign refl refl) h

-- `!`, `:`, `::` and `:=` before a blank, and `:` before `msg`

pub not_row : {rest : List ℕ} {ts : List PlacedLexeme} → IsRow (32 ∷ rest) ts → IsRow (33 ∷ 32 ∷ rest) (at_start (tok.Sign sign.Not) ∷ ts)
not_row h = more start (p.sign refl refl) h

pub colon_row : {rest : List ℕ} {ts : List PlacedLexeme} → IsRow (32 ∷ rest) ts → IsRow (58 ∷ 32 ∷ rest) (at_start (tok.Sign sign.Colon) ∷ ts)
colon_row h = more start (p.sign refl refl) h

pub mark_row : {rest : List ℕ} {ts : List PlacedLexeme} → IsRow (109 ∷ rest) ts → IsRow (58 ∷ 109 ∷ rest) (at_start (tok.Sign sign.Colon) ∷ ts)
mark_row h = more start (p.sign refl refl) h

pub bounds_row : {rest : List ℕ} {ts : List PlacedLexeme} → IsRow (32 ∷ rest) ts → IsRow (58 ∷ 58 ∷ 32 ∷ rest) (at_start (tok.Sign sign.Bounds) ∷ ts)
bounds_row h = more start (p.sign refl refl) h

pub assign_row : {rest : List ℕ} {ts : List PlacedLexeme} → IsRow (32 ∷ rest) ts → IsRow (58 ∷ 61 ∷ 32 ∷ rest) (at_start (tok.Sign sign.Assign) ∷ ts)
assign_row h = more start (p.sign refl refl) h

pub operator_row : (o : BOp) {rest : List ℕ} {ts : List PlacedLexeme} → IsRow (32 ∷ rest) ts → IsRow (operator_text o ++ (32 ∷ rest)) (at_start (operator_tok o) ∷ ts)
operator_row op.Iff h = more start (p.sign refl refl) h
operator_row op.Implies h = more start (p.sign refl refl) h
operator_row op.Or h = more start (p.sign refl refl) h
operator_row op.And h = more start (p.sign refl refl) h
operator_row op.Eq h = more start (p.sign refl refl) h
operator_row op.Ne h = more start (p.sign refl refl) h
operator_row op.Lt h = more start (p.sign refl refl) h
operator_row op.Le h = more start (p.sign refl refl) h
operator_row op.Gt h = more start (p.sign refl refl) h
operator_row op.Ge h = more start (p.sign refl refl) h
operator_row op.Add h = more start (p.sign refl refl) h
operator_row op.Sub h = more start (p.sign refl refl) h
operator_row op.Mul h = more start (p.sign refl refl) h
operator_row op.Divide h = more start (p.sign refl refl) h
operator_row op.IntDiv h = name_row 100 (codes "iv") _ refl refl h
operator_row op.IntMod h = name_row 109 (codes "od") _ refl refl h

-- numbers

digit_range : (b : ℕ) → is_ascii_digit b ≡ true → (48 ≤ b) × (b ≤ 57)
digit_range b h = let parts = and_parts _ _ h in (leb-true 48 b parts.0, leb-true b 57 parts.1)

digit_class : (b : ℕ) → is_ascii_digit b ≡ true → class_of b ≡ Digit
digit_class b h =
    let range = digit_range b h in
    let no_blank : is_blank b ≡ false =
    or_from _ _ (or_from _ _ (or_from _ _ (ne_eqb b 32 (λ e. omega (arith, e, range.0))) (ne_eqb b 10 (λ e. omega (arith, e, range.0)))) (ne_eqb b 13 (λ e. omega (arith, e, range.0)))) (ne_eqb b 9 (λ e. omega (arith, e, range.0))) in
    let no_start : is_name_start b ≡ false =
    or_from _ _ (or_from _ _ (or_from _ _ (and_left _ _ (lt-leb 97 b (omega (arith, range.1)))) (and_left _ _ (lt-leb 65 b (omega (arith, range.1))))) (ne_eqb b 95 (λ e. omega (arith, e, range.1)))) (ne_eqb b 36 (λ e. omega (arith, e, range.0))) in
    cond-false (is_blank b) _ _ no_blank ∙ (cond-false (is_name_start b) _ _ no_start ∙ cond-true (is_ascii_digit b) _ _ h)

literal_is : {r s : Bool} {v w : ℕ} → r ≡ s → v ≡ w → Some (literal r v) ≡ Some (literal s w)
literal_is {r = r} {s = s} {v = v} {w = w} e f = ap (λ b. Some (literal b v)) e ∙ ap (λ n. Some (literal s n)) f

number_of_digits : (ds rest : List ℕ) {ts : List PlacedLexeme} → 0 < length ds → list_all is_ascii_digit ds ≡ true → digits_value 10 ds ≤ max_literal → prefix_len is_ascii_digit rest ≡ 0 →
    is_point_zero rest ≡ false → IsRow rest ts → IsRow (ds ++ rest) (at_start (tok.Number (pos (digits_value 10 ds))) ∷ ts)
number_of_digits [] rest some all small ends point h = absurd (omega (arith, some))
number_of_digits (d ∷ ds) rest {ts} some all small ends point h =
    let is_front = front-append is_ascii_digit (d ∷ ds) rest all ends in
    let is_behind = behind-append is_ascii_digit (d ∷ ds) rest all ends in
    let no_point : is_point_zero (behind is_ascii_digit (d ∷ (ds ++ rest))) ≡ false = ap is_point_zero is_behind ∙ point in
    more start (piece_as (p.number (subst (λ x. digits_value 10 x ≤ max_literal) (sym is_front) small)) (digit_class d (and_parts _ _ all).0)
    (literal_is no_point (ap (digits_value 10) is_front)) (ap (λ b. literal_length b (prefix_len is_ascii_digit (d ∷ (ds ++ rest)))) no_point))
    (subst (λ r. IsRow r ts) (sym is_behind) h)

real_of_digits : (ds rest : List ℕ) {ts : List PlacedLexeme} → 0 < length ds → list_all is_ascii_digit ds ≡ true → digits_value 10 ds ≤ max_literal → IsRow rest ts →
    IsRow (ds ++ (46 ∷ 48 ∷ rest)) (at_start (tok.Real (pos (digits_value 10 ds))) ∷ ts)
real_of_digits [] rest some all small h = absurd (omega (arith, some))
real_of_digits (d ∷ ds) rest {ts} some all small h =
    let after : List ℕ = 46 ∷ 48 ∷ rest in
    let is_front = front-append is_ascii_digit (d ∷ ds) after all refl in
    let is_behind = behind-append is_ascii_digit (d ∷ ds) after all refl in
    let count : prefix_len is_ascii_digit (d ∷ (ds ++ after)) ≡ length (d ∷ ds) = prefix_len-append is_ascii_digit (d ∷ ds) after all refl in
    let a_point : is_point_zero (behind is_ascii_digit (d ∷ (ds ++ after))) ≡ true = ap is_point_zero is_behind in
    more start (piece_as (p.number (subst (λ x. digits_value 10 x ≤ max_literal) (sym is_front) small)) (digit_class d (and_parts _ _ all).0)
    (literal_is a_point (ap (digits_value 10) is_front)) (ap (λ b. literal_length b (prefix_len is_ascii_digit (d ∷ (ds ++ after)))) a_point ∙ ap (λ n. n + 2) count))
    (subst (λ r. IsRow r ts) (sym (drop-append-add (d ∷ ds) after 2)) h)

decimal_digits : (n : ℕ) → n < 10 ^ 64 → list_all is_ascii_digit (decimal n) ≡ true
decimal_digits n small = all_digits (decimal n) ∙ digits.from (decimal n) (decimal_is_IsNumeral_wide n small).0.1

pub number_row : (n : ℕ) (rest : List ℕ) {ts : List PlacedLexeme} → n ≤ max_literal → Ends rest → IsRow rest ts → IsRow (decimal n ++ rest) (at_start (tok.Number (pos n)) ∷ ts)
number_row n rest {ts} small ends h =
    let wide : n < 10 ^ 64 = omega (arith, small) in
    let numeral = decimal_is_IsNumeral_wide n wide in
    subst (λ m. IsRow (decimal n ++ rest) (at_start (tok.Number (pos m)) ∷ ts)) numeral.1
    (number_of_digits (decimal n) rest numeral.0.0 (decimal_digits n wide) (subst (λ m. m ≤ max_literal) (sym numeral.1) small) ends.number_ends ends.point_ends h)

pub real_row : (n : ℕ) (rest : List ℕ) {ts : List PlacedLexeme} → n ≤ max_literal → IsRow rest ts → IsRow (decimal n ++ (46 ∷ 48 ∷ rest)) (at_start (tok.Real (pos n)) ∷ ts)
real_row n rest {ts} small h =
    let wide : n < 10 ^ 64 = omega (arith, small) in
    let numeral = decimal_is_IsNumeral_wide n wide in
    subst (λ m. IsRow (decimal n ++ (46 ∷ 48 ∷ rest)) (at_start (tok.Real (pos m)) ∷ ts)) numeral.1
    (real_of_digits (decimal n) rest numeral.0.0 (decimal_digits n wide) (subst (λ m. m ≤ max_literal) (sym numeral.1) small) h)

-- the name of a bound variable

digits_in_name : (ds : List ℕ) → list_all is_ascii_digit ds ≡ true → list_all is_name_byte ds ≡ true
digits_in_name [] h = refl
digits_in_name (d ∷ ds) h =
    let parts = and_parts (is_ascii_digit d) (list_all is_ascii_digit ds) h in
    and_from _ _ (or_left _ _ (or_right (is_name_start d) (is_ascii_digit d) parts.0)) (digits_in_name ds parts.1)

pub bound_form : (n : ℕ) → n < 2 ^ 64 → is_name (113 ∷ decimal n) ≡ true
bound_form n small = digits_in_name (decimal n) (decimal_digits n (omega (arith, small)))

-- labels

digits_unquoted : (ds : List ℕ) → list_all is_ascii_digit ds ≡ true → list_all is_unquoted ds ≡ true
digits_unquoted [] h = refl
digits_unquoted (d ∷ ds) h =
    let parts = and_parts (is_ascii_digit d) (list_all is_ascii_digit ds) h in
    and_from _ _ (not_from_false _ (ne_eqb d 34 (λ e. omega (arith, e, (digit_range d parts.0).0)))) (digits_unquoted ds parts.1)

place_unquoted : (p : Pos) → list_all is_unquoted (place_text p) ≡ true
place_unquoted p =
    list_all_append is_unquoted (decimal p.line ++ codes ":") (decimal p.col)
    (list_all_append is_unquoted (decimal p.line) (codes ":") (digits_unquoted (decimal p.line) (decimal_digits p.line (omega (arith, p.line_in_range.1)))) refl)
    (digits_unquoted (decimal p.col) (decimal_digits p.col (omega (arith, p.col_in_range.1))))

kind_unquoted : (k : Kind) → list_all is_unquoted (kind_text k) ≡ true
kind_unquoted kind.Null = refl
kind_unquoted kind.Perm = refl
kind_unquoted kind.Fact = refl
kind_unquoted kind.Div = refl
kind_unquoted kind.Negative = refl
kind_unquoted kind.Amount = refl

unquoted : (l : Label) → list_all is_unquoted (text_of l) ≡ true
unquoted l =
    let before_part = list_all_append is_unquoted (place_text l.at) (codes " ") (place_unquoted l.at) refl in
    let before_space = list_all_append is_unquoted (place_text l.at ++ codes " ") (place_text l.part) before_part (place_unquoted l.part) in
    let before_kind = list_all_append is_unquoted (place_text l.at ++ codes " " ++ place_text l.part) (codes " ") before_space refl in
    list_all_append is_unquoted (place_text l.at ++ codes " " ++ place_text l.part ++ codes " ") (kind_text l.kind) before_kind (kind_unquoted l.kind)

quoted_row : (text rest : List ℕ) (l : Label) {ts : List PlacedLexeme} → Spells text l → list_all is_unquoted text ≡ true → IsRow rest ts →
    IsRow (34 ∷ (text ++ (34 ∷ rest))) (at_start (tok.Text l) ∷ ts)
quoted_row text rest l {ts} spelled all h =
    let is_front = front-append is_unquoted text (34 ∷ rest) all refl in
    let count : prefix_len is_unquoted (text ++ (34 ∷ rest)) ≡ length text = prefix_len-append is_unquoted text (34 ∷ rest) all refl in
    let whole : drop (length text + 1) (text ++ (34 ∷ rest)) ≡ rest = drop-append-add text (34 ∷ rest) 1 in
    let two : suc (length text + 1) ≡ prefix_len is_unquoted (text ++ (34 ∷ rest)) + 2 = omega (arith, count) in
    more start (p.text (subst (λ x. Spells x l) (sym is_front) spelled) (behind-append is_unquoted text (34 ∷ rest) all refl))
    (subst (λ n. IsRow (drop n (34 ∷ (text ++ (34 ∷ rest)))) ts) two (subst (λ r. IsRow r ts) (sym whole) h))

pub text_row : (l : Label) (rest : List ℕ) {ts : List PlacedLexeme} → IsRow rest ts → IsRow (34 ∷ (text_of l ++ (34 ∷ rest))) (at_start (tok.Text l) ∷ ts)
text_row l rest h = quoted_row (text_of l) rest l (record { text = refl }) (unquoted l) h
