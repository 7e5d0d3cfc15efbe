-- The cut of a text into pieces, each the longest with which the rest of the text begins.
use Rattle.std.specs.Prelude.{ℕ, List, [], ◌∷◌, ◌++◌, Option, Some, None, take, drop}
use Rattle.vb_base.specs.declared.places.Pos.{Pos}
use Rattle.vb_base.specs.Place.{IsPlaceAfter}
use Rattle.boogie_grammar.specs.declared.tokens.Lexeme.{Lexeme}
use Rattle.boogie_grammar.specs.declared.tokens.PlacedLexeme.{PlacedLexeme}
use Rattle.boogie_grammar.specs.Pieces.{Piece, class_of}

-- the tokens with one more in front, at its place, or with none for a blank
abbrev pub onto : Option Lexeme → Pos → List PlacedLexeme → List PlacedLexeme
onto None at tokens = tokens
onto (Some t) at tokens = record { tok = t; pos = at } ∷ tokens

-- after the bytes `before`, the rest of the text is a row of such pieces, and these are the tokens among them
pub data IsCut : List ℕ → List ℕ → List PlacedLexeme → Type 0 where
  end : {before : List ℕ} → IsCut before [] []
  piece : {before bytes : List ℕ} {b n : ℕ} {o : Option Lexeme} {at : Pos} {tokens : List PlacedLexeme} →
      Piece (class_of b) (b ∷ bytes) o n → IsPlaceAfter before at →
      IsCut (before ++ take n (b ∷ bytes)) (drop n (b ∷ bytes)) tokens →
      IsCut before (b ∷ bytes) (onto o at tokens)

-- the bytes are a row of such pieces, and these are the tokens among them, at whatever places
pub data IsRow : List ℕ → List PlacedLexeme → Type 0 where
  none : IsRow [] []
  more : {bytes : List ℕ} {b n : ℕ} {o : Option Lexeme} (at : Pos) {tokens : List PlacedLexeme} →
      Piece (class_of b) (b ∷ bytes) o n → IsRow (drop n (b ∷ bytes)) tokens → IsRow (b ∷ bytes) (onto o at tokens)
