-- The tokens that are handed out, and the tokens of the grammar that they stand for.
use Rattle.std.specs.Prelude.{◌≡◌, ◌++◌, ◌⊎◌, ℕ, ℤ, pos, negsuc, List, Option, Some, None, map, find, if◌then◌else◌, Result, Ok, Err}
use Rattle.std.specs.declared.alloc.Global.{Global}
use Rattle.std.specs.declared.vec.Vec.{Vec}
use Rattle.std.specs.Option.{option_map}
use Rattle.std.specs.Str.{bytes_eq}
use Rattle.vb_base.specs.declared.places.Pos.{Pos}
use Rattle.vb_base.specs.Names.{is_name}
use Rattle.vb_base.specs.Place.{IsPlaceAfter}
use Rattle.boogie_tree.specs.Text.{prelude}
use Rattle.boogie_grammar.specs.declared.faults.BoogieFault.{BoogieFault}
use Rattle.boogie_grammar.specs.declared.faults.BoogieFault.TheVariants as fault
use Rattle.boogie_grammar.specs.declared.tokens.BSign.{BSign}
use Rattle.boogie_grammar.specs.declared.tokens.Lexeme.{Lexeme}
use Rattle.boogie_grammar.specs.declared.tokens.Lexeme.TheVariants as tok
use Rattle.boogie_grammar.specs.declared.tokens.PlacedLexeme.{PlacedLexeme}
use Rattle.boogie_grammar.specs.Words.{sign_text}
use Rattle.boogie_grammar.specs.Pieces.{signs}
use Rattle.boogie_grammar.specs.Cut.{IsCut}
use Rattle.boogie_grammar.specs.Depth.{IsShallow, IsTooDeep}
use Rattle.boogie_grammar.specs.Faults.{Differs, Stops}
use Rattle.boogie_text.specs.declared.public_tokens.BTok as public
use Rattle.boogie_text.specs.declared.public_tokens.BTok.TheVariants as variant
use Rattle.boogie_text.specs.declared.public_tokens.BToken as handed

-- a token of the grammar as it is handed out
abbrev pub shown : Lexeme → public.BTok
shown (tok.Name x) = variant.Name x
shown (tok.Number n) = variant.Number n
shown (tok.Real n) = variant.RealNumber n
shown (tok.Text l) = variant.Text l
shown (tok.Sign o) = variant.Sign (sign_text o)

abbrev pub shown_token : PlacedLexeme → handed.BToken
shown_token k = record { tok = shown k.tok; pos = k.pos }

-- the sign that has these bytes
abbrev pub sign_of : List ℕ → Option BSign
sign_of bytes = find (λ o. bytes_eq bytes (sign_text o)) signs

-- a literal, of a number from 0 on
abbrev pub literal_of : (ℤ → Lexeme) → ℤ → Option Lexeme
literal_of make (pos n) = Some (make (pos n))
literal_of make (negsuc n) = None

-- The token of the grammar that a token stands for: none, where the bytes of a name are no name, those of a sign no sign, or
-- a number is below 0.
abbrev pub stands_for : public.BTok → Option Lexeme
stands_for (variant.Name x) = if is_name x then Some (tok.Name x) else None
stands_for (variant.Number n) = literal_of tok.Number n
stands_for (variant.RealNumber n) = literal_of tok.Real n
stands_for (variant.Text l) = Some (tok.Text l)
stands_for (variant.Sign x) = option_map tok.Sign (sign_of x)

abbrev pub token_of : handed.BToken → Option PlacedLexeme
token_of k = option_map (λ t. record { tok = t; pos = k.pos }) (stands_for k.tok)

-- these are the tokens after the prelude, each of which stands for itself, and never are too many brackets unclosed
pub record AreTokens (bytes : List ℕ) (ts : List handed.BToken) : Type 0 where
  pub rest : List ℕ
  pub tokens : List PlacedLexeme
  pub text : bytes ≡ prelude ++ rest
  pub cut : IsCut prelude rest tokens
  pub shallow : IsShallow tokens
  pub shown : ts ≡ map shown_token tokens
  pub stand : map token_of ts ≡ map Some tokens

-- why there are none, and where: the first of these that holds
pub data IsTokenFault (bytes : List ℕ) : BoogieFault → Type 0 where
  no_prelude : {same : List ℕ} {at : Pos} → Differs bytes prelude same → IsPlaceAfter same at → IsTokenFault bytes (fault.Prelude at)
  no_token : {rest : List ℕ} {at : Pos} → bytes ≡ prelude ++ rest → Stops prelude rest at → IsTokenFault bytes (fault.Syntax at)
  too_deep : {rest : List ℕ} {ts : List PlacedLexeme} {at : Pos} → bytes ≡ prelude ++ rest → IsCut prelude rest ts → IsTooDeep ts at → IsTokenFault bytes (fault.Deep at)

-- the answer is these tokens, unless memory was refused
abbrev pub GivesTokens : List handed.BToken → Result (Vec handed.BToken Global) BoogieFault → Type 0
GivesTokens ts (Ok v) = v.items ≡ ts
GivesTokens ts (Err fault.Memory) = Unit {0}
GivesTokens ts (Err (fault.Prelude at)) = ⊥
GivesTokens ts (Err (fault.Syntax at)) = ⊥
GivesTokens ts (Err (fault.Deep at)) = ⊥

-- the answer is this fault, unless memory was refused
abbrev pub GivesTokenFault : BoogieFault → Result (Vec handed.BToken Global) BoogieFault → Type 0
GivesTokenFault f (Ok v) = ⊥
GivesTokenFault f (Err e) = (e ≡ f) ⊎ (e ≡ fault.Memory)
