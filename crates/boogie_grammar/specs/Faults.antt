-- Why bytes are refused, and where: the first of these that holds.
use Rattle.std.specs.Prelude.{◌≡◌, ◌++◌, ℕ, zero, suc, List, [], ◌∷◌, Option, take, drop}
use Rattle.vb_base.specs.declared.places.Pos.{Pos}
use Rattle.vb_base.specs.Place.{IsPlace, IsPlaceAfter}
use Rattle.grammar.specs.declared.stop.Stop.{Stop}
use Rattle.grammar.specs.declared.stop.Stop.TheVariants as stop
use Rattle.boogie_tree.specs.Text.{prelude}
use Rattle.boogie_grammar.specs.declared.faults.BoogieFault.{BoogieFault}
use Rattle.boogie_grammar.specs.declared.faults.BoogieFault.TheVariants as fault
use Rattle.boogie_grammar.specs.declared.tokens.Lexeme.{Lexeme}
use Rattle.boogie_grammar.specs.declared.tokens.PlacedLexeme.{PlacedLexeme}
use Rattle.boogie_grammar.specs.Pieces.{Piece, class_of}
use Rattle.boogie_grammar.specs.Cut.{IsCut}
use Rattle.boogie_grammar.specs.Depth.{IsShallow, IsTooDeep}
use Rattle.boogie_grammar.specs.Spells.{IsProgram}

-- both begin with the bytes `same`, and then the first list ends or has another byte than the second
pub data Differs : List ℕ → List ℕ → List ℕ → Type 0 where
  ended : {b : ℕ} {bs : List ℕ} → Differs [] (b ∷ bs) []
  other : {a b : ℕ} {as_ bs : List ℕ} → (a ≡ b → ⊥) → Differs (a ∷ as_) (b ∷ bs) []
  later : {a b : ℕ} {as_ bs same : List ℕ} → a ≡ b → Differs as_ bs same → Differs (a ∷ as_) (b ∷ bs) (a ∷ same)

-- after the bytes `before`, the rest of the text is a row of pieces up to a byte at this place, at which none begins
pub data Stops : List ℕ → List ℕ → Pos → Type 0 where
  here : {before bytes : List ℕ} {b : ℕ} {at : Pos} →
      ((o : Option Lexeme) (n : ℕ) → Piece (class_of b) (b ∷ bytes) o n → ⊥) → IsPlaceAfter before at → Stops before (b ∷ bytes) at
  later : {before bytes : List ℕ} {b n : ℕ} {o : Option Lexeme} {at : Pos} →
      Piece (class_of b) (b ∷ bytes) o n → Stops (before ++ take n (b ∷ bytes)) (drop n (b ∷ bytes)) at → Stops before (b ∷ bytes) at

-- the place of the token of this number, or the end where the tokens have no such token
abbrev pub place_at : List PlacedLexeme → ℕ → Pos → Pos
place_at [] i end = end
place_at (k ∷ ts) zero end = k.pos
place_at (k ∷ ts) (suc i) end = place_at ts i end

-- the fault that a stop is
abbrev pub fault_of : Stop PlacedLexeme → Pos → BoogieFault
fault_of stop.Memory end = fault.Memory
fault_of (stop.Before r) end = fault.Syntax (place_at r.now zero end)

-- the bytes are refused so
pub data IsFault (bytes : List ℕ) : BoogieFault → Type 0 where
  no_prelude : {same : List ℕ} {at : Pos} → Differs bytes prelude same → IsPlaceAfter same at → IsFault bytes (fault.Prelude at)
  no_token : {rest : List ℕ} {at : Pos} → bytes ≡ prelude ++ rest → Stops prelude rest at → IsFault bytes (fault.Syntax at)
  too_deep : {rest : List ℕ} {ts : List PlacedLexeme} {at : Pos} → bytes ≡ prelude ++ rest → IsCut prelude rest ts → IsTooDeep ts at → IsFault bytes (fault.Deep at)
  no_program : {rest : List ℕ} {ts : List PlacedLexeme} {i : ℕ} {end : Pos} → bytes ≡ prelude ++ rest → IsCut prelude rest ts → IsShallow ts →
      (IsProgram ts → ⊥) → IsPlace IsProgram ts i → IsPlaceAfter bytes end → IsFault bytes (fault.Syntax (place_at ts i end))
