-- What code makes of the text that is left.
use Rattle.std.specs.Prelude.{ℕ, ℤ, Bool, true, false, List, [], ◌∷◌, Option, Some, None, Result, Ok, Err}
use Rattle.vb_base.specs.declared.places.Pos.{Pos}
use Rattle.vb_base.specs.Place.{IsPlaceAfter}
use Rattle.boogie_tree.specs.declared.exprs.BOp.{BOp}
use Rattle.boogie_tree.specs.declared.exprs.BOp.TheVariants as op
use Rattle.boogie_grammar.specs.declared.faults.BoogieFault.{BoogieFault}
use Rattle.boogie_grammar.specs.declared.faults.BoogieFault.TheVariants as fault
use Rattle.boogie_grammar.specs.declared.tokens.BSign.{BSign}
use Rattle.boogie_grammar.specs.declared.tokens.BSign.TheVariants as sign
use Rattle.boogie_grammar.specs.declared.tokens.Lexeme.{Lexeme}
use Rattle.boogie_grammar.specs.declared.tokens.Lexeme.TheVariants as tok
use Rattle.boogie_grammar.specs.declared.tokens.PlacedLexeme.{PlacedLexeme}
use Rattle.boogie_grammar.specs.Pieces.{Piece, class_of}
use Rattle.boogie_grammar.specs.Cut.{IsCut}
use Rattle.boogie_grammar.specs.Faults.{Stops, Differs}

-- the bytes begin with this piece, a token or a blank, of so many bytes
abbrev pub IsPiece : List ℕ → Option Lexeme → ℕ → Type 0
IsPiece [] o n = ⊥
IsPiece (b ∷ bytes) o n = Piece (class_of b) (b ∷ bytes) o n

-- they begin with none
abbrev pub NoPiece : List ℕ → Type 0
NoPiece bytes = (o : Option Lexeme) (n : ℕ) → IsPiece bytes o n → ⊥

-- the token, if there is one, at this place
abbrev pub one_at : Option Lexeme → Pos → List PlacedLexeme
one_at None at = []
one_at (Some t) at = record { tok = t; pos = at } ∷ []

-- after any bytes after which the place is `start`, the text is cut into these tokens, or stops here, or memory was refused
abbrev pub CutFails : List ℕ → List ℕ → BoogieFault → Type 0
CutFails before bytes fault.Memory = Unit {0}
CutFails before bytes (fault.Syntax at) = Stops before bytes at
CutFails before bytes (fault.Prelude at) = ⊥
CutFails before bytes (fault.Deep at) = ⊥

abbrev pub Cuts : List ℕ → List ℕ → Result (List PlacedLexeme) BoogieFault → Type 0
Cuts before bytes (Ok ts) = IsCut before bytes ts
Cuts before bytes (Err e) = CutFails before bytes e

-- a literal of this value, real or not
abbrev pub literal_of : Bool → ℤ → Lexeme
literal_of true n = tok.Real n
literal_of false n = tok.Number n

-- the operator that a sign is
abbrev pub sign_operator : BSign → Option BOp
sign_operator sign.Iff = Some op.Iff
sign_operator sign.Implies = Some op.Implies
sign_operator sign.Or = Some op.Or
sign_operator sign.And = Some op.And
sign_operator sign.Equal = Some op.Eq
sign_operator sign.NotEqual = Some op.Ne
sign_operator sign.Less = Some op.Lt
sign_operator sign.AtMost = Some op.Le
sign_operator sign.Greater = Some op.Gt
sign_operator sign.AtLeast = Some op.Ge
sign_operator sign.Plus = Some op.Add
sign_operator sign.Minus = Some op.Sub
sign_operator sign.Star = Some op.Mul
sign_operator sign.Slash = Some op.Divide
sign_operator _ = None

-- the bytes do not have this prefix, and differ from it at this place
abbrev pub LacksFront : List ℕ → List ℕ → Pos → Type 0
LacksFront bytes front at = (same : List ℕ) × Differs bytes front same × IsPlaceAfter same at
