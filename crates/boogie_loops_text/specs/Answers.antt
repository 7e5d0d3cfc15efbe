-- What it is that bytes are read as.
use Rattle.std.specs.Prelude.{ℕ, List, Result}
use Rattle.boogie_grammar.specs.Depth.{IsShallow}
use Rattle.boogie_grammar.specs.declared.faults.BoogieFault.{BoogieFault}
use Rattle.boogie_text.specs.Answers.{Gives}
use Rattle.boogie_loops.specs.Wide.{WProgram}
use Rattle.boogie_loops.specs.View.{wprogram_of}
use Rattle.boogie_loops.specs.declared.wide.WProgram as declared
use Rattle.boogie_loops_grammar.specs.Spells.{WideSpells}

-- the bytes spell the program, and never are too many of its brackets unclosed
pub record IsWideRead (bytes : List ℕ) (program : WProgram) : Type 0 where
  pub spelled : WideSpells bytes program
  pub shallow : IsShallow spelled.tokens

-- the answer is this program, unless memory was refused or the brackets are too deep
abbrev pub GivesProgram : WProgram → Result declared.WProgram BoogieFault → Type 0
GivesProgram program result = Gives wprogram_of program result
