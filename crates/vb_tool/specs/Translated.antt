-- What is promised of the text that is written for a file.
use Rattle.std.specs.Prelude.{ℕ, List}
use Rattle.viper_core.specs.Program.{Program}
use Rattle.boogie_grammar.specs.Spells.{BSpells}
use Rattle.boogie_tree.specs.Program.{BProgram}
use Rattle.enc_units.specs.Translates.{Translates}
use Rattle.viper_file.specs.Accepted.{IsAccepted}
use Rattle.viper_file.specs.Verified.{HasNoFailure}
use Rattle.vb_tool.specs.Verified.{NoProcedureFails}

-- the file has this program, and the text is a translation of it
pub record IsTranslationOfFile (Has : List ℕ → List ℕ → Type 0) (file : List ℕ) (text : List ℕ) : Type 0 where
  pub bytes : List ℕ
  pub is : Has file bytes
  pub program : Program
  pub accepted : IsAccepted bytes program
  pub translates : Translates program text

-- The file has this program, of which nothing fails where no procedure fails of the program that the text spells.
pub record IsVerifiedByText (Has : List ℕ → List ℕ → Type 0) (file : List ℕ) (text : List ℕ) : Type 0 where
  pub bytes : List ℕ
  pub is : Has file bytes
  pub program : Program
  pub accepted : IsAccepted bytes program
  pub verified : (boogie : BProgram) → BSpells text boogie → NoProcedureFails boogie → HasNoFailure program
