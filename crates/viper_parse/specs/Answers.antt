-- What `parse` answers.
use Rattle.std.specs.Prelude.{◌≡◌, ℕ, List, Result, Ok, Err}
use Rattle.vb_base.specs.declared.places.Pos.{Pos}
use Rattle.vb_base.specs.Place.{IsPlace}
use Rattle.viper_syntax.specs.declared.tokens.Token.{Token}
use Rattle.viper_syntax.specs.declared.decls.SourceProgram.{SourceProgram}
use Rattle.viper_syntax.specs.Decl as d
use Rattle.viper_syntax.specs.View.{program_of}
use Rattle.viper_syntax.specs.declared.faults.ParseFault.{ParseFault}
use Rattle.viper_syntax.specs.declared.faults.ParseFault.TheVariants as fault
use Rattle.viper_grammar.specs.Spells.{Spells}
use Rattle.viper_grammar.specs.Stops.{place_at}

-- the tokens spell some program
abbrev pub IsProgram : List Token → Type 0
IsProgram ts = (p : d.SourceProgram) × Spells ts p

-- the tokens spell no program; the number of the first one with which they begin none, or that of all tokens
pub record GoesWrong (ts : List Token) : Type 0 where
  pub none : IsProgram ts → ⊥
  pub at : ℕ
  pub place : IsPlace IsProgram ts at

-- the answer is this program, unless memory was refused
abbrev pub Gives : Result SourceProgram ParseFault → d.SourceProgram → Type 0
Gives (Ok p) tree = program_of p ≡ tree
Gives (Err fault.Memory) tree = Unit {0}
Gives (Err (fault.Syntax at)) tree = ⊥

-- a syntax error has the place of the first token such that the tokens through it begin no program, or the end where
-- all of them begin one
abbrev pub Refuses : Result SourceProgram ParseFault → List Token → Pos → Type 0
Refuses (Ok p) ts end = Unit {0}
Refuses (Err fault.Memory) ts end = Unit {0}
Refuses (Err (fault.Syntax at)) ts end = (i : ℕ) × IsPlace IsProgram ts i × (at ≡ place_at ts i end)
