-- One step of the cut: what code makes of the text that is left.
use Rattle.std.specs.Prelude.{◌≡◌, ◌≢◌, ℕ, ◌<◌, Bool, false, IsTrue, List, [], ◌∷◌, slice_get, Option, Some, None, Result, Ok, Err}
use Rattle.std.specs.Char.{is_ascii_digit}
use Rattle.vb_base.specs.declared.places.Pos.{Pos}
use Rattle.vb_base.specs.Names.{is_name_start}
use Rattle.viper_syntax.specs.declared.tokens.LexFault.{LexFault}
use Rattle.viper_syntax.specs.declared.tokens.LexFault.TheVariants as f
use Rattle.viper_syntax.specs.declared.tokens.Tok.{Tok}
use Rattle.viper_syntax.specs.Spelling.{is_blank}
use Rattle.viper_syntax.specs.Piece.{Piece, Skipped, Taken, IsLongest, ClosesAt}
use Rattle.viper_syntax.specs.Cut.{IsSound, IsFaultHere}

-- the first byte is one of these
abbrev pub BeginsWith : (ℕ → Bool) → List ℕ → Type 0
BeginsWith p [] = ⊥
BeginsWith p (b ∷ bs) = IsTrue (p b)

-- neither a blank, a word, a name, a number nor a comment begins here
abbrev pub IsSignOnly : List ℕ → Type 0
IsSignOnly [] = ⊥
IsSignOnly (b ∷ bs) =
    (is_blank b ≡ false) × (is_name_start b ≡ false) × (is_ascii_digit b ≡ false) ×
    (b ≡ 47 → (slice_get bs 0 ≢ Some 47) × (slice_get bs 0 ≢ Some 42))

-- the first `*/` stands at this index
abbrev pub IsFirstClose : List ℕ → ℕ → Type 0
IsFirstClose bs i = ClosesAt bs i × ((j : ℕ) → j < i → ClosesAt bs j → ⊥)

-- the piece of an optional token
abbrev pub piece_of : Option Tok → Piece
piece_of None = Skipped
piece_of (Some t) = Taken t

-- the fact, unless memory was refused
abbrev pub UnlessMemory : (LexFault → Type 0) → LexFault → Type 0
UnlessMemory P f.Memory = Unit {0}
UnlessMemory P (f.BadByte at) = P (f.BadByte at)
UnlessMemory P (f.OpenComment at) = P (f.OpenComment at)
UnlessMemory P (f.BigLiteral at) = P (f.BigLiteral at)
UnlessMemory P (f.Braces at) = P (f.Braces at)
UnlessMemory P (f.LongGroup at) = P (f.LongGroup at)
UnlessMemory P (f.Unsupported at) = P (f.Unsupported at)

-- the longest piece here, which the cut may go past, or the fault
abbrev pub IsStep : List ℕ → Pos → Result (Option Tok × ℕ) LexFault → Type 0
IsStep bs at (Ok r) = IsLongest bs r.1 (piece_of r.0) × IsSound (piece_of r.0)
IsStep bs at (Err e) = UnlessMemory (IsFaultHere bs at) e
