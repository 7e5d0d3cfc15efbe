-- The pieces that the text after the prelude is made of: tokens, blanks and comments (Leino, This is Boogie 2, section 1,
-- with the mark `{:msg ".."}` and the real literals of the later tool).
use Rattle.std.specs.Prelude.{◌≡◌, ◌==◌, ◌+◌, ◌≤◌, pos, ℕ, Bool, not, ◌||◌, if◌then◌else◌, false, List, [], ◌∷◌, length, Option, Some, None, find}
use Rattle.std.specs.Char.{is_ascii_digit}
use Rattle.std.specs.List.{starts_with, prefix_len}
use Rattle.std.specs.Str.Parse.{digits_value}
use Rattle.vb_base.specs.declared.labels.Label.{Label}
use Rattle.vb_base.specs.Labels.{Spells}
use Rattle.vb_base.specs.Names.{is_name_start, is_name_byte}
use Rattle.vb_base.specs.Rows.{front, behind}
use Rattle.boogie_grammar.specs.declared.tokens.BSign.{BSign}
use Rattle.boogie_grammar.specs.declared.tokens.BSign.TheVariants as s
use Rattle.boogie_grammar.specs.declared.tokens.Lexeme.{Lexeme}
use Rattle.boogie_grammar.specs.declared.tokens.Lexeme.TheVariants as tok
use Rattle.boogie_tree.specs.Literals.{max_literal}
use Rattle.boogie_grammar.specs.Words.{sign_text}

abbrev pub is_blank : ℕ → Bool
is_blank b = b == 32 || b == 10 || b == 13 || b == 9

-- not the byte that ends a line
abbrev pub is_in_line : ℕ → Bool
is_in_line b = not (b == 10)

-- not a quote
abbrev pub is_unquoted : ℕ → Bool
is_unquoted b = not (b == 34)

-- the signs, longer ones first
abbrev pub signs : List BSign
signs =
    s.Iff ∷ s.Implies ∷ s.Or ∷ s.And ∷ s.Equal ∷ s.NotEqual ∷ s.AtMost ∷ s.AtLeast ∷ s.Assign ∷ s.Bounds ∷ s.OpenParen ∷ s.CloseParen ∷
    s.OpenBrace ∷ s.CloseBrace ∷ s.OpenBracket ∷ s.CloseBracket ∷ s.Comma ∷ s.Semicolon ∷ s.Colon ∷ s.Less ∷ s.Greater ∷ s.Plus ∷
    s.Minus ∷ s.Star ∷ s.Slash ∷ s.Not ∷ []

-- the longest sign with which the bytes begin
abbrev pub sign_at : List ℕ → Option BSign
sign_at bytes = find (λ o. starts_with ◌==◌ bytes (sign_text o)) signs

-- what a first byte begins
pub data Class : Type 0 where
  Blank Letter Digit Quote Other : Class

abbrev pub class_of : ℕ → Class
class_of b = if is_blank b then Blank else (if is_name_start b then Letter else (if is_ascii_digit b then Digit else (if b == 34 then Quote else Other)))

-- whether `.0` comes first, which makes a real literal of digits in front
abbrev pub is_point_zero : List ℕ → Bool
is_point_zero bytes = starts_with ◌==◌ bytes (46 ∷ 48 ∷ [])

-- the literal of a row of digits, before these bytes, and how many bytes it has
abbrev pub digits : List ℕ → List ℕ
digits bytes = front is_ascii_digit bytes

abbrev pub literal : Bool → ℕ → Lexeme
literal real n = if real then tok.Real (pos n) else tok.Number (pos n)

abbrev pub literal_length : Bool → ℕ → ℕ
literal_length real n = if real then n + 2 else n

-- The longest piece with which the bytes begin, a token or (None) a blank or a comment, and how many bytes it has. A row
-- of digits that is above the greatest literal begins none, and so does a quote in front of what is no label.
pub data Piece : Class → List ℕ → Option Lexeme → ℕ → Type 0 where
  blank : {b : ℕ} {rest : List ℕ} → Piece Blank (b ∷ rest) None 1
  name : {bytes : List ℕ} → Piece Letter bytes (Some (tok.Name (front is_name_byte bytes))) (prefix_len is_name_byte bytes)
  number : {bytes : List ℕ} → digits_value 10 (digits bytes) ≤ max_literal →
      Piece Digit bytes (Some (literal (is_point_zero (behind is_ascii_digit bytes)) (digits_value 10 (digits bytes))))
      (literal_length (is_point_zero (behind is_ascii_digit bytes)) (prefix_len is_ascii_digit bytes))
  text : {bytes rest : List ℕ} {l : Label} → Spells (front is_unquoted bytes) l → behind is_unquoted bytes ≡ 34 ∷ rest →
      Piece Quote (34 ∷ bytes) (Some (tok.Text l)) (prefix_len is_unquoted bytes + 2)
  comment : {bytes : List ℕ} → Piece Other (47 ∷ 47 ∷ bytes) None (prefix_len is_in_line bytes + 2)
  sign : {bytes : List ℕ} {o : BSign} → starts_with ◌==◌ bytes (47 ∷ 47 ∷ []) ≡ false → sign_at bytes ≡ Some o →
      Piece Other bytes (Some (tok.Sign o)) (length (sign_text o))
