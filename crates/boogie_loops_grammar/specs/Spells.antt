-- Which bytes spell which program with loops, calls and contracts.
use Rattle.std.specs.Prelude.{◌≡◌, ◌++◌, ℕ, List, []}
use Rattle.vb_base.specs.Place.{IsPlace}
use Rattle.grammar.specs.Spells.{Derives}
use Rattle.boogie_tree.specs.Text.{prelude}
use Rattle.boogie_grammar.specs.declared.tokens.PlacedLexeme.{PlacedLexeme}
use Rattle.boogie_grammar.specs.Cut.{IsRow}
use Rattle.boogie_loops.specs.Wide.{WProgram}
use Rattle.boogie_loops_grammar.specs.Grammar.{Programs, rule, rules}

-- a list of tokens spells a program
abbrev pub Spells : List PlacedLexeme → WProgram → Type 0
Spells ts p = Derives rules _ (rule (Programs [])) ts p.procs

-- the bytes are the prelude, and then tokens and blanks that spell the program
pub record WideSpells (bytes : List ℕ) (program : WProgram) : Type 0 where
  pub rest : List ℕ
  pub tokens : List PlacedLexeme
  pub text : bytes ≡ prelude ++ rest
  pub cut : IsRow rest tokens
  pub spells : Spells tokens program

-- the tokens spell some program
abbrev pub SpellsWideProgram : List PlacedLexeme → Type 0
SpellsWideProgram ts = (p : WProgram) × Spells ts p

-- the tokens spell no program; the number of the first one with which they begin none, or that of all tokens
pub record GoesWrong (ts : List PlacedLexeme) : Type 0 where
  pub none : SpellsWideProgram ts → ⊥
  pub at : ℕ
  pub place : IsPlace SpellsWideProgram ts at
