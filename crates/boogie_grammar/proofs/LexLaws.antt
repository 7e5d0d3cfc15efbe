-- The cut as a loop goes through it.
use Rattle.std.proofs.Common.{◌≡◌, ◌∙◌, ◌<◌, ◌≤◌, ◌+◌, ◌==◌, refl, sym, ap, subst, arith, ℕ, Bool, true, false, List, [], ◌∷◌, ◌++◌, length, length-append, length-drop, take, drop, append_assoc, append-nil, Option, Some, None, if◌then◌else◌, find}
use Rattle.std.specs.Char.{is_ascii_digit}
use Rattle.std.specs.List.{prefix_len, starts_with}
use Rattle.std.proofs.lemmas.Bool.{cond-true, and_parts, or_left}
use Rattle.std.proofs.lemmas.List.{take-append-drop}
use Rattle.std.proofs.lemmas.List.Sums.{prefix_len-le-length}
use Rattle.vb_base.specs.declared.places.Pos.{Pos}
use Rattle.vb_base.specs.Place.{IsPlaceAfter, line_after, col_after}
use Rattle.vb_base.specs.Names.{is_name_start, is_name_byte}
use Rattle.vb_base.specs.Rows.{behind}
use Rattle.vb_base.proofs.PlaceLaws.{line_after-le, col_after-le}
use Rattle.boogie_grammar.specs.declared.tokens.BSign.{BSign}
use Rattle.boogie_grammar.specs.declared.tokens.BSign.TheVariants as sign
use Rattle.boogie_grammar.specs.declared.tokens.Lexeme.{Lexeme}
use Rattle.boogie_grammar.specs.declared.tokens.PlacedLexeme.{PlacedLexeme}
use Rattle.boogie_grammar.specs.Words.{sign_text}
use Rattle.boogie_grammar.specs.Pieces as p
use Rattle.boogie_grammar.specs.Pieces.{Class, Blank, Letter, Digit, Quote, Other, class_of, is_blank, is_in_line, is_unquoted, is_point_zero, literal_length, signs, Piece}
use Rattle.boogie_grammar.specs.Cut.{IsCut, end, piece, onto}
use Rattle.boogie_grammar.specs.Faults.{Stops}
use Rattle.boogie_grammar.specs.Faults as s
use Rattle.boogie_grammar.specs.Step.{IsPiece, NoPiece, one_at}

-- how long a piece is

starts_within : (xs ys : List ℕ) → starts_with ◌==◌ xs ys ≡ true → length ys ≤ length xs
starts_within xs [] h = omega arith
starts_within [] (y ∷ ys) h = absurd (cc)
starts_within (x ∷ xs) (y ∷ ys) h = let le : length ys ≤ length xs = starts_within xs ys (and_parts _ _ h).1 in omega (arith, le)

some_is : {a b : BSign} → Some a ≡ Some b → a ≡ b
some_is e = cc

passes_at : (q : BSign → Bool) (x o : BSign) (b : Bool) (found : Option BSign) → q x ≡ b → (if b then Some x else found) ≡ Some o → (found ≡ Some o → q o ≡ true) → q o ≡ true
passes_at q x o true found e k later = subst (λ z. q z ≡ true) (some_is k) e
passes_at q x o false found e k later = later k

found_passes : (q : BSign → Bool) (os : List BSign) (o : BSign) → find q os ≡ Some o → q o ≡ true
found_passes q [] o h = absurd (cc)
found_passes q (x ∷ xs) o h = passes_at q x o (q x) (find q xs) refl h (found_passes q xs o)

literal_within : (text : List ℕ) (n : ℕ) (b : Bool) → is_point_zero (drop n text) ≡ b → n ≤ length text → literal_length b n ≤ length text
literal_within text n true e le = let two = starts_within (drop n text) (46 ∷ 48 ∷ []) e in let l = length-drop n text in omega (arith, two, l, le)
literal_within text n false e le = le

pub piece_within : {c : Class} {bytes : List ℕ} {o : Option Lexeme} {n : ℕ} → Piece c bytes o n → n ≤ length bytes
piece_within (p.blank {rest = rest}) = omega arith
piece_within (p.name {bytes = bytes}) = prefix_len-le-length is_name_byte bytes
piece_within (p.number {bytes = bytes} small) =
    literal_within bytes (prefix_len is_ascii_digit bytes) (is_point_zero (behind is_ascii_digit bytes)) refl (prefix_len-le-length is_ascii_digit bytes)
piece_within (p.text {bytes = bytes} {rest = rest} spelled e) =
    let l = length-drop (prefix_len is_unquoted bytes) bytes in let le = prefix_len-le-length is_unquoted bytes in let f = ap length e in omega (arith, l, le, f)
piece_within (p.comment {bytes = bytes}) = let le = prefix_len-le-length is_in_line bytes in omega (arith, le)
piece_within (p.sign {bytes = bytes} {o = o} h k) = starts_within bytes (sign_text o) (found_passes (λ x. starts_with ◌==◌ bytes (sign_text x)) signs o k)

pub letter_at : (x y z w : Bool) → (if x then Blank else (if y then Letter else (if z then Digit else (if w then Quote else Other)))) ≡ Letter → y ≡ true
letter_at true y z w e = absurd (cc)
letter_at false true z w e = refl
letter_at false false true w e = absurd (cc)
letter_at false false false true e = absurd (cc)
letter_at false false false false e = absurd (cc)

digit_at : (x y z w : Bool) → (if x then Blank else (if y then Letter else (if z then Digit else (if w then Quote else Other)))) ≡ Digit → z ≡ true
digit_at true y z w e = absurd (cc)
digit_at false true z w e = absurd (cc)
digit_at false false true w e = refl
digit_at false false false true e = absurd (cc)
digit_at false false false false e = absurd (cc)

some_first : (q : ℕ → Bool) (b : ℕ) (bytes : List ℕ) → q b ≡ true → 0 < prefix_len q (b ∷ bytes)
some_first q b bytes h = let e = cond-true (q b) (1 + prefix_len q bytes) 0 h in omega (arith, e)

sign_some : (o : BSign) → 0 < length (sign_text o)
sign_some sign.OpenParen = omega arith
sign_some _ = omega arith

literal_some : (b : Bool) (n : ℕ) → 0 < n → 0 < literal_length b n
literal_some true n lt = omega (arith, lt)
literal_some false n lt = lt

some_of : {c : Class} {text : List ℕ} {o : Option Lexeme} {n : ℕ} (b : ℕ) (bytes : List ℕ) → text ≡ b ∷ bytes → class_of b ≡ c → Piece c text o n → 0 < n
some_of b bytes e class p.blank = omega arith
some_of b bytes e class (p.name {bytes = text}) =
    let start = letter_at (is_blank b) (is_name_start b) (is_ascii_digit b) (b == 34) class in
    subst (λ x. 0 < prefix_len is_name_byte x) (sym e) (some_first is_name_byte b bytes (or_left _ _ (or_left _ _ start)))
some_of b bytes e class (p.number {bytes = text} small) =
    let digit = digit_at (is_blank b) (is_name_start b) (is_ascii_digit b) (b == 34) class in
    literal_some (is_point_zero (behind is_ascii_digit text)) (prefix_len is_ascii_digit text) (subst (λ x. 0 < prefix_len is_ascii_digit x) (sym e) (some_first is_ascii_digit b bytes digit))
some_of b bytes e class (p.text spelled f) = omega arith
some_of b bytes e class p.comment = omega arith
some_of b bytes e class (p.sign {o = o} h k) = sign_some o

pub piece_some : (text : List ℕ) (o : Option Lexeme) (n : ℕ) → IsPiece text o n → (0 < n) × (n ≤ length text)
piece_some [] o n h = absurd h
piece_some (b ∷ bytes) o n h = (some_of b bytes refl refl h, piece_within h)

-- how far the cut has come

pub record IsReached (before bytes rest : List ℕ) (line col : ℕ) (ts : List PlacedLexeme) : Type 0 where
  pub front : List ℕ
  pub splits : front ++ rest ≡ bytes
  pub line_is : line ≡ line_after (before ++ front)
  pub col_is : col ≡ col_after (before ++ front)
  pub cut : (us : List PlacedLexeme) → IsCut (before ++ front) rest us → IsCut before bytes (ts ++ us)
  pub stops : (at : Pos) → Stops (before ++ front) rest at → Stops before bytes at

pub reached_start : (before bytes : List ℕ) (at : Pos) → IsPlaceAfter before at → IsReached before bytes bytes at.line at.col []
reached_start before bytes at h = record {
  front = [];
  splits = refl;
  line_is = h.line ∙ ap line_after (sym (append-nil before));
  col_is = h.col ∙ ap col_after (sym (append-nil before));
  cut = λ us c. subst (λ x. IsCut x bytes us) (append-nil before) c;
  stops = λ p c. subst (λ x. Stops x bytes p) (append-nil before) c;
}

pub onto_is : (o : Option Lexeme) (at : Pos) (ts us : List PlacedLexeme) → ts ++ onto o at us ≡ (ts ++ one_at o at) ++ us
onto_is None at ts us = ap (λ l. l ++ us) (sym (append-nil ts))
onto_is (Some t) at ts us = sym (append_assoc ts (record { tok = t; pos = at } ∷ []) us)

piece_cut : {before : List ℕ} (text : List ℕ) (o : Option Lexeme) (n : ℕ) {at : Pos} {us : List PlacedLexeme} → IsPiece text o n → IsPlaceAfter before at →
    IsCut (before ++ take n text) (drop n text) us → IsCut before text (onto o at us)
piece_cut [] o n h a c = absurd h
piece_cut (b ∷ bytes) o n h a c = piece h a c

piece_stops : {before : List ℕ} (text : List ℕ) (o : Option Lexeme) (n : ℕ) {at : Pos} → IsPiece text o n → Stops (before ++ take n text) (drop n text) at → Stops before text at
piece_stops [] o n h c = absurd h
piece_stops (b ∷ bytes) o n h c = s.later h c

here_stops : {before : List ℕ} (text : List ℕ) {at : Pos} → (text ≡ [] → ⊥) → NoPiece text → IsPlaceAfter before at → Stops before text at
here_stops [] some none a = absurd (some refl)
here_stops (b ∷ bytes) some none a = s.here none a

pub reached_more : {before bytes rest back : List ℕ} {line col : ℕ} {ts us : List PlacedLexeme} (n : ℕ) (o : Option Lexeme) (at next : Pos) → IsReached before bytes rest line col ts →
    at.line ≡ line → at.col ≡ col → IsPiece rest o n → ((b : List ℕ) → IsPlaceAfter b at → IsPlaceAfter (b ++ take n rest) next) → back ≡ drop n rest → us ≡ ts ++ one_at o at →
    IsReached before bytes back next.line next.col us
reached_more {before = before} {bytes = bytes} {rest = rest} {ts = ts} n o at next r line_at col_at h moves back_is us_is =
    let place : IsPlaceAfter (before ++ r.front) at = record { line = line_at ∙ r.line_is; col = col_at ∙ r.col_is } in
    let assoc : (before ++ r.front) ++ take n rest ≡ before ++ (r.front ++ take n rest) = append_assoc before r.front (take n rest) in
    let next_place = subst (λ x. IsPlaceAfter x next) assoc (moves (before ++ r.front) place) in
    rw (us_is, back_is) (record {
      front = r.front ++ take n rest;
      splits = append_assoc r.front (take n rest) (drop n rest) ∙ ap (λ l. r.front ++ l) (take-append-drop n rest) ∙ r.splits;
      line_is = next_place.line;
      col_is = next_place.col;
      cut = λ vs c. subst (λ l. IsCut before bytes l) (onto_is o at ts vs) (r.cut _ (piece_cut rest o n h place (subst (λ x. IsCut x (drop n rest) vs) (sym assoc) c)));
      stops = λ p c. r.stops p (piece_stops rest o n h (subst (λ x. Stops x (drop n rest) p) (sym assoc) c));
    })

pub reached_end : {before bytes : List ℕ} {line col : ℕ} {ts : List PlacedLexeme} → IsReached before bytes [] line col ts → IsCut before bytes ts
reached_end {before = before} {bytes = bytes} {ts = ts} r = subst (λ l. IsCut before bytes l) (append-nil ts) (r.cut [] end)

pub reached_stop : {before bytes rest : List ℕ} {line col : ℕ} {ts : List PlacedLexeme} (at : Pos) → IsReached before bytes rest line col ts → at.line ≡ line → at.col ≡ col →
    (rest ≡ [] → ⊥) → NoPiece rest → Stops before bytes at
reached_stop {rest = rest} at r line_at col_at some none = r.stops at (here_stops rest some none record { line = line_at ∙ r.line_is; col = col_at ∙ r.col_is })

pub reached_line : {before bytes rest : List ℕ} {line col : ℕ} {ts : List PlacedLexeme} → IsReached before bytes rest line col ts → (1 ≤ line) × (line + length rest ≤ length before + length bytes + 1)
reached_line {before = before} {rest = rest} r =
    (omega (arith, r.line_is), omega (arith, r.line_is, line_after-le (before ++ r.front), ap length r.splits, length-append r.front rest, length-append before r.front))

pub reached_col : {before bytes rest : List ℕ} {line col : ℕ} {ts : List PlacedLexeme} → IsReached before bytes rest line col ts → (1 ≤ col) × (col + length rest ≤ length before + length bytes + 1)
reached_col {before = before} {rest = rest} r =
    (omega (arith, r.col_is), omega (arith, r.col_is, col_after-le (before ++ r.front), ap length r.splits, length-append r.front rest, length-append before r.front))
