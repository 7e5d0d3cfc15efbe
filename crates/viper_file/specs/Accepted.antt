-- Which program the bytes of a file are, and why they are refused. Each step continues from the one before: bytes are cut into tokens,
-- tokens spell a tree, and a tree is a typed program.
use Rattle.std.specs.Prelude.{◌≡◌, ◌<◌, ◌≤◌, ℕ, List, length}
use Rattle.vb_base.specs.Limits.{max_viper_bytes, max_weight, too_heavy}
use Rattle.vb_base.specs.declared.places.Pos.{Pos}
use Rattle.vb_base.specs.Place.{IsPlaceAfter, IsPlace}
use Rattle.viper_syntax.specs.declared.tokens.LexFault.{LexFault}
use Rattle.viper_syntax.specs.declared.tokens.Token.{Token}
use Rattle.viper_syntax.specs.Decl as d
use Rattle.viper_syntax.specs.Lexed.{IsLexed, HasFault}
use Rattle.viper_parse.specs.Answers.{IsProgram as Spelled}
use Rattle.viper_grammar.specs.Spells.{Spells}
use Rattle.viper_grammar.specs.Stops.{place_at}
use Rattle.viper_core.specs.Program as p
use Rattle.viper_core.specs.Weight.{weight}
use Rattle.viper_types.specs.Declaring.{program_typing}
use Rattle.viper_scope.specs.Outcome.{Broken}
use Rattle.viper_scope.specs.Rules.{number}
use Rattle.viper_scope.specs.declared.rules.Rule as types
use Rattle.viper_types.specs.Program.{IsProgram}
use Rattle.viper_file.specs.declared.fault.ViperRefusal.{ViperRefusal}
use Rattle.viper_file.specs.declared.fault.ViperRefusal.TheVariants.{Size, Lex, Syntax, Rule, Weight}

-- the bytes are the text of this typed program, within the limits of a file and of weight
pub record IsAccepted (bytes : List ℕ) (typed : p.Program) : Type 0 where
  pub small : length bytes ≤ max_viper_bytes
  pub tokens : List Token
  pub lexed : IsLexed bytes tokens
  pub source : d.SourceProgram
  pub spelled : Spells tokens source
  pub is_typed : IsProgram source typed
  pub light : weight typed ≤ max_weight

-- ---- refusals

-- a tree is refused for the first rule that it breaks, or for its weight
pub data IsTreeRefusal (source : d.SourceProgram) : ViperRefusal → Type 0 where
  rule : {at : Pos} {r : types.Rule} → program_typing source ≡ Broken at r → IsTreeRefusal source (Rule at (number r))
  heavy : {typed : p.Program} → IsProgram source typed → max_weight < weight typed → IsTreeRefusal source (Weight too_heavy)

-- tokens that spell no tree are refused at the first token with which they begin none, or at the end where all of them begin
-- one
pub data IsTokenRefusal (bytes : List ℕ) (tokens : List Token) : ViperRefusal → Type 0 where
  syntax : {i : ℕ} {end : Pos} → (Spelled tokens → ⊥) → IsPlace Spelled tokens i → IsPlaceAfter bytes end → IsTokenRefusal bytes tokens (Syntax (place_at tokens i end))
  of_tree : {source : d.SourceProgram} {r : ViperRefusal} → Spells tokens source → IsTreeRefusal source r → IsTokenRefusal bytes tokens r

-- a text is refused for a fault of its tokens, or for what they spell
pub data IsTextRefusal (bytes : List ℕ) : ViperRefusal → Type 0 where
  lex : {fault : LexFault} → HasFault bytes fault → IsTextRefusal bytes (Lex fault)
  of_tokens : {tokens : List Token} {r : ViperRefusal} → IsLexed bytes tokens → IsTokenRefusal bytes tokens r → IsTextRefusal bytes r

-- the bytes of a file are refused, for the first of these reasons that stands
pub data IsRefusal (bytes : List ℕ) : ViperRefusal → Type 0 where
  size : max_viper_bytes < length bytes → IsRefusal bytes Size
  of_text : {r : ViperRefusal} → length bytes ≤ max_viper_bytes → IsTextRefusal bytes r → IsRefusal bytes r

-- exactly one program is accepted, or there is exactly one reason to refuse, and never both
pub data HasOneAnswer (bytes : List ℕ) : Type 0 where
  is_accepted : {typed : p.Program} → IsAccepted bytes typed → ((other : p.Program) → IsAccepted bytes other → other ≡ typed) → ((r : ViperRefusal) → IsRefusal bytes r → ⊥) → HasOneAnswer bytes
  is_refused : {r : ViperRefusal} → IsRefusal bytes r → ((other : ViperRefusal) → IsRefusal bytes other → other ≡ r) → ((typed : p.Program) → IsAccepted bytes typed → ⊥) → HasOneAnswer bytes
