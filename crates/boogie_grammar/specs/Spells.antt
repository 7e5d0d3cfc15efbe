-- Which bytes spell which program.
use Rattle.std.specs.Prelude.{◌≡◌, ◌++◌, ℕ, List, []}
use Rattle.vb_base.specs.Place.{IsPlace}
use Rattle.grammar.specs.Spells.{Derives}
use Rattle.boogie_tree.specs.Program.{BProgram}
use Rattle.boogie_tree.specs.Text.{prelude}
use Rattle.boogie_grammar.specs.declared.tokens.PlacedLexeme.{PlacedLexeme}
use Rattle.boogie_grammar.specs.Cut.{IsRow}
use Rattle.boogie_grammar.specs.Grammar.{Program, rule, rules}

-- a list of tokens spells a program
abbrev pub Spells : List PlacedLexeme → BProgram → Type 0
Spells ts p = Derives rules _ (rule (Program [])) ts p.procs

-- the bytes are the prelude, and then tokens and blanks that spell the program
pub record BSpells (bytes : List ℕ) (program : BProgram) : Type 0 where
  pub rest : List ℕ
  pub tokens : List PlacedLexeme
  pub text : bytes ≡ prelude ++ rest
  pub cut : IsRow rest tokens
  pub spells : Spells tokens program

-- the tokens spell some program
abbrev pub IsProgram : List PlacedLexeme → Type 0
IsProgram ts = (p : BProgram) × Spells ts p

-- the tokens spell no program; the number of the first one with which they begin none, or that of all tokens
pub record GoesWrong (ts : List PlacedLexeme) : Type 0 where
  pub none : IsProgram ts → ⊥
  pub at : ℕ
  pub place : IsPlace IsProgram ts at
