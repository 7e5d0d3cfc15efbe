-- The program without loops and calls that is written for one with them, as text.
use Rattle.std.specs.Prelude.{◌≡◌, ℕ, List}
use Rattle.boogie_tree.specs.Program.{BProgram}
use Rattle.boogie_meaning.specs.Programs.{IsTypedProgram}
use Rattle.boogie_grammar.specs.Printed.{program_text}
use Rattle.boogie_grammar.specs.Spells.{BSpells}
use Rattle.boogie_loops.specs.Wide.{WProgram}
use Rattle.boogie_cut.specs.Cut.{cut_program}
use Rattle.boogie_cut.specs.Follows.{AreCutOf}
use Rattle.vb_tool.specs.AcceptedCut.{AcceptsCut}

-- the text that is written of it
abbrev pub cut_text : WProgram → List ℕ
cut_text program = program_text (cut_program program)

-- The text spells exactly one program of Boogie, and that is well-typed. It has a procedure for each of those that have a body,
-- which ends as the modular run does, and fails wherever a turning run does.
pub record IsCutOfProgram (program : WProgram) (text : List ℕ) : Type 0 where
  pub written : BProgram
  pub spelled : BSpells text written
  pub only : (b : BProgram) → BSpells text b → b ≡ written
  pub typed : IsTypedProgram written
  pub follows : AreCutOf program written

-- a file has this program, and the text is what is written for it
pub record IsCutOfFile (Has : List ℕ → List ℕ → Type 0) (file : List ℕ) (text : List ℕ) : Type 0 where
  pub bytes : List ℕ
  pub is : Has file bytes
  pub program : WProgram
  pub accepted : AcceptsCut bytes program
  pub cut : IsCutOfProgram program text
