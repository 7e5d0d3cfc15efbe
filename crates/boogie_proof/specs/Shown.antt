-- What is shown of a text of Boogie and of its procedures.
use Rattle.std.specs.Prelude.{◌≡◌, ◌<◌, ◌≤◌, ℕ, List, length, Some, slice_get}
use Rattle.vb_base.specs.Limits.{max_boogie_bytes}
use Rattle.vb_base.specs.declared.labels.Label.{Label}
use Rattle.boogie_tree.specs.Program.{Proc, BProgram}
use Rattle.boogie_meaning.specs.Programs.{ProcFails, BoogieFails}
use Rattle.boogie_file.specs.Accepted.{IsBoogie, IsTextRefusal}
use Rattle.boogie_file.specs.declared.refusal.BoogieRefusal.{BoogieRefusal}
use Rattle.boogie_file.specs.declared.refusal.BoogieRefusal.TheVariants.{Size}
use Rattle.unit_proof.specs.Shown.{NeverFails}
use Rattle.unit_proof.specs.Shown as any
use Rattle.unit_proof.specs.declared.answers.UnitAnswer.{UnitAnswer}

-- ---- a procedure

-- some run of the procedure of this number, from 0 on, fails at the label
pub record ProcedureFails (program : BProgram) (n : ℕ) (label : Label) : Type 0 where
  pub procedure : Proc
  pub is_there : slice_get program.procs n ≡ Some procedure
  pub fails : ProcFails procedure label

-- no run of the procedure of this number fails, at any label
abbrev pub ProcedureNeverFails : BProgram → ℕ → Type 0
ProcedureNeverFails program n = NeverFails (ProcedureFails program) n

-- the procedure of this number has this name
abbrev pub IsNameOf : BProgram → ℕ → List ℕ → Type 0
IsNameOf program n name = (d : Proc) → slice_get program.procs n ≡ Some d → name ≡ d.name

-- ---- the procedures of a program

-- these answers are those of the first procedures, in order: no run of one that is proved fails, and each has the name of its procedure
abbrev pub AreShown : BProgram → List UnitAnswer → Type 0
AreShown program answers = any.AreShown (ProcedureFails program) (IsNameOf program) answers

-- ---- a text

-- the bytes are the text of a well-typed program, and these are the answers of all its procedures
pub record IsAnswered (source : List ℕ) (answers : List UnitAnswer) : Type 0 where
  pub program : BProgram
  pub accepted : IsBoogie source program
  pub as_many : length answers ≡ length program.procs
  pub shown : AreShown program answers

-- the bytes are the text of a well-typed program, and no run of a procedure of it fails, whatever its name and whatever the label
pub record NothingFails (source : List ℕ) : Type 0 where
  pub program : BProgram
  pub accepted : IsBoogie source program
  pub procedures : (name : List ℕ) (label : Label) → BoogieFails program name label → ⊥

-- the bytes are refused, for the first of these reasons that stands
pub data IsRefusal (source : List ℕ) : BoogieRefusal → Type 0 where
  size : max_boogie_bytes < length source → IsRefusal source Size
  of_text : {r : BoogieRefusal} → length source ≤ max_boogie_bytes → IsTextRefusal source r → IsRefusal source r
