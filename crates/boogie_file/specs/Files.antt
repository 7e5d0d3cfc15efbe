-- What a file of Boogie is accepted as, or refused for, where these are the bytes of files by their names.
use Rattle.std.specs.Prelude.{◌≡◌, ℕ, List, Some}
use Rattle.boogie_tree.specs.Program.{Proc, BProgram}
use Rattle.boogie_file.specs.Accepted.{IsBoogie, procedure_named, Accepts, IsRefusal}
use Rattle.boogie_file.specs.declared.refusal.BoogieRefusal.{BoogieRefusal}

-- it is refused for this reason
pub record Refuses (Has : List ℕ → List ℕ → Type 0) (file name : List ℕ) (r : BoogieRefusal) : Type 0 where
  pub bytes : List ℕ
  pub is : Has file bytes
  pub refused : IsRefusal bytes name r

-- it is accepted, and has a procedure of this name
pub record HasProcedure (Has : List ℕ → List ℕ → Type 0) (file name : List ℕ) : Type 0 where
  pub bytes : List ℕ
  pub is : Has file bytes
  pub procedure : Proc
  pub accepted : Accepts bytes name procedure

-- it is the text of this well-typed program, whose procedure of this name has this number, from 0 on
pub record IsFound (Has : List ℕ → List ℕ → Type 0) (file name : List ℕ) (program : BProgram) (number : ℕ) : Type 0 where
  pub bytes : List ℕ
  pub is : Has file bytes
  pub accepted : IsBoogie bytes program
  pub named : procedure_named program name ≡ Some number
