-- Which bytes are read as which program.
use Rattle.std.specs.Prelude.{ℕ, List}
use Rattle.boogie_tree.specs.Program as p
use Rattle.boogie_grammar.specs.Depth.{IsShallow}
use Rattle.boogie_grammar.specs.Spells.{BSpells}

-- the bytes spell the program, and never are too many of its brackets unclosed
pub record IsRead (bytes : List ℕ) (program : p.BProgram) : Type 0 where
  pub spelled : BSpells bytes program
  pub shallow : IsShallow spelled.tokens
