-- What is read of a text, whatever it is that its tokens are to spell.
use Rattle.std.specs.Prelude.{◌≡◌, ◌++◌, ℕ, List, Result, Ok, Err}
use Rattle.vb_base.specs.declared.places.Pos.{Pos}
use Rattle.vb_base.specs.Place.{IsPlace, IsPlaceAfter}
use Rattle.boogie_tree.specs.Text.{prelude}
use Rattle.boogie_grammar.specs.declared.faults.BoogieFault.{BoogieFault}
use Rattle.boogie_grammar.specs.declared.faults.BoogieFault.TheVariants as fault
use Rattle.boogie_grammar.specs.declared.tokens.PlacedLexeme.{PlacedLexeme}
use Rattle.boogie_grammar.specs.Cut.{IsCut}
use Rattle.boogie_grammar.specs.Depth.{IsShallow}
use Rattle.boogie_grammar.specs.Faults.{place_at}
use Rattle.boogie_text.specs.PublicTokens.{IsTokenFault}

-- the bytes are the prelude, and then these tokens and blanks, and never are too many brackets unclosed
pub record HasTokens (bytes : List ℕ) (tokens : List PlacedLexeme) : Type 0 where
  pub rest : List ℕ
  pub text : bytes ≡ prelude ++ rest
  pub cut : IsCut prelude rest tokens
  pub shallow : IsShallow tokens

-- The bytes are refused so, where their tokens are to be some of which P holds. The first of these that holds: they have no
-- tokens, or P holds of no such tokens, and these go wrong at a place.
pub data IsRefused (P : List PlacedLexeme → Type 0) (bytes : List ℕ) : BoogieFault → Type 0 where
  no_tokens : {f : BoogieFault} → IsTokenFault bytes f → IsRefused P bytes f
  no_program : {tokens : List PlacedLexeme} {i : ℕ} {end : Pos} → HasTokens bytes tokens →
      (P tokens → ⊥) → IsPlace P tokens i → IsPlaceAfter bytes end → IsRefused P bytes (fault.Syntax (place_at tokens i end))

-- memory was refused, or P does not hold of the tokens, and they go wrong at this place
abbrev pub RefusesTokens : (List PlacedLexeme → Type 0) → List PlacedLexeme → Pos → BoogieFault → Type 0
RefusesTokens P ts end fault.Memory = Unit {0}
RefusesTokens P ts end (fault.Syntax at) = (P ts → ⊥) × ((i : ℕ) × IsPlace P ts i × (at ≡ place_at ts i end))
RefusesTokens P ts end (fault.Prelude at) = ⊥
RefusesTokens P ts end (fault.Deep at) = ⊥

-- the tokens spell what is answered, or P does not hold of them
abbrev pub ReadsTokens : {D : Type 0} → (List PlacedLexeme → D → Type 0) → (List PlacedLexeme → Type 0) → List PlacedLexeme → Pos → Result D BoogieFault → Type 0
ReadsTokens Spell P ts end (Ok d) = Spell ts d
ReadsTokens Spell P ts end (Err e) = RefusesTokens P ts end e
