-- The cut of a text into pieces, each the longest with which the rest of the text begins.
use Rattle.std.specs.Prelude.{◌≢◌, ℕ, ℤ, pos, ◌-◌, ◌^◌, ◌≤ℤ◌, ◌<ℤ◌, List, [], ◌∷◌, ◌++◌, take, drop}
use Rattle.vb_base.specs.declared.places.Pos.{Pos}
use Rattle.vb_base.specs.Place.{IsPlaceAfter}
use Rattle.viper_syntax.specs.declared.tokens.LexFault.{LexFault}
use Rattle.viper_syntax.specs.declared.tokens.LexFault.TheVariants as f
use Rattle.viper_syntax.specs.declared.tokens.Tok.{Tok}
use Rattle.viper_syntax.specs.declared.tokens.Tok.TheVariants as k
use Rattle.viper_syntax.specs.declared.tokens.Token.{Token}
use Rattle.viper_syntax.specs.Piece.{Piece, Skipped, Unclosed, Taken, IsLongest, BeginsNoPiece}

-- the largest number that a text may have
abbrev pub MAX : ℤ
MAX = pos (2 ^ 127 - 1)

abbrev pub IsSmall : Tok → Type 0
IsSmall (k.Name x) = Unit {0}
IsSmall (k.Number n) = n ≤ℤ MAX
IsSmall (k.Word w) = Unit {0}
IsSmall (k.Sign s) = Unit {0}

-- a piece that the cut may go past: each but an unclosed comment and a number above MAX
abbrev pub IsSound : Piece → Type 0
IsSound Skipped = Unit {0}
IsSound Unclosed = ⊥
IsSound (Taken t) = IsSmall t

-- the tokens of a piece that stands at this place: one or none
abbrev pub tokens_at : Pos → Piece → List Token
tokens_at at Skipped = []
tokens_at at Unclosed = []
tokens_at at (Taken t) = record { tok = t; pos = at } ∷ []

-- after the bytes `before`, the rest of the text is cut into these tokens
pub data IsCut : List ℕ → List ℕ → List Token → Type 0 where
  end : {before : List ℕ} → IsCut before [] []
  piece : {before rest : List ℕ} {n : ℕ} {p : Piece} {at : Pos} {ts : List Token} →
      IsLongest rest n p → IsSound p → IsPlaceAfter before at →
      IsCut (before ++ take n rest) (drop n rest) ts →
      IsCut before rest (tokens_at at p ++ ts)

-- a fault of the bytes from here on, at this place
pub data IsFaultHere (rest : List ℕ) (at : Pos) : LexFault → Type 0 where
  bad_byte : rest ≢ [] → BeginsNoPiece rest → IsFaultHere rest at (f.BadByte at)
  open_comment : {n : ℕ} → IsLongest rest n Unclosed → IsFaultHere rest at (f.OpenComment at)
  big_literal : {n : ℕ} {v : ℤ} → IsLongest rest n (Taken (k.Number v)) → MAX <ℤ v → IsFaultHere rest at (f.BigLiteral at)

-- after the bytes `before`, the cut of the rest meets this fault first
pub data Meets : List ℕ → List ℕ → LexFault → Type 0 where
  here : {before rest : List ℕ} {at : Pos} {f : LexFault} →
      IsPlaceAfter before at → IsFaultHere rest at f → Meets before rest f
  later : {before rest : List ℕ} {n : ℕ} {p : Piece} {f : LexFault} →
      IsLongest rest n p → IsSound p → Meets (before ++ take n rest) (drop n rest) f → Meets before rest f
