-- What is promised of an execution besides its text: it does not fail where no procedure of the translation of its file does.
use Rattle.std.specs.Prelude.{◌≡◌, ℕ, List}
use Rattle.vb_base.specs.declared.labels.Label.{Label}
use Rattle.boogie_grammar.specs.Spells.{BSpells}
use Rattle.boogie_tree.specs.Program.{BProgram}
use Rattle.enc_units.specs.Translates.{text_of}
use Rattle.vb_tool.specs.AcceptedExecution.{AcceptsExecution}
use Rattle.vb_tool.specs.Executions.{MethodRun}
use Rattle.vb_tool.specs.Verified.{NoProcedureFails}
use Rattle.vb_tool.specs.declared.status.Status.{Status}
use Rattle.vb_tool.specs.declared.status.Status.TheVariants.{Failed}

-- Two files and the name of a method are an execution. Its status is no failure where no procedure fails of the program that the text
-- of the translation spells.
pub record IsFramedEnd (Has : List ℕ → List ℕ → Type 0) (file method run_file : List ℕ) (status : Status) : Type 0 where
  pub bytes : List ℕ
  pub run_bytes : List ℕ
  pub is : Has file bytes
  pub run_is : Has run_file run_bytes
  pub run : MethodRun
  pub accepted : AcceptsExecution bytes method run_bytes run
  pub framed : (boogie : BProgram) → BSpells (text_of run.program) boogie → NoProcedureFails boogie → (label : Label) → status ≡ Failed label → ⊥
