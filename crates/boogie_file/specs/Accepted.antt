-- Of which procedure conditions are written, by the bytes of a file of Boogie and a name, and why they are refused.
use Rattle.std.specs.Prelude.{◌≡◌, ◌<◌, ◌≤◌, ℕ, List, length, slice_get, Option, Some, None, position}
use Rattle.std.specs.Str.{bytes_eq}
use Rattle.vb_base.specs.Limits.{max_boogie_bytes}
use Rattle.vb_base.specs.declared.places.Pos.{Pos}
use Rattle.boogie_tree.specs.Program.{Proc, BProgram}
use Rattle.boogie_meaning.specs.Programs.{IsTypedProgram, IsFirstIllTyped}
use Rattle.boogie_grammar.specs.Faults.{IsFault}
use Rattle.boogie_grammar.specs.declared.faults.BoogieFault.TheVariants as fault
use Rattle.boogie_print.specs.Read.{IsRead}
use Rattle.boogie_file.specs.declared.refusal.BoogieRefusal.{BoogieRefusal}
use Rattle.boogie_file.specs.declared.refusal.BoogieRefusal.TheVariants.{Size, Prelude, Deep, BoogieSyntax, BoogieType, NoProcedure}

-- the bytes are the text of this well-typed program, within the limits of a file and of brackets
pub record IsBoogie (bytes : List ℕ) (program : BProgram) : Type 0 where
  pub small : length bytes ≤ max_boogie_bytes
  pub text : IsRead bytes program
  pub is_typed : IsTypedProgram program

-- the number of the procedure that has this name, from 0 on. The names of procedures differ, so it is the only one.
abbrev pub procedure_named : BProgram → List ℕ → Option ℕ
procedure_named program name = position (λ (d : Proc). bytes_eq d.name name) program.procs

-- the bytes are the text of a well-typed program, which has this procedure under the name
pub record Accepts (bytes name : List ℕ) (procedure : Proc) : Type 0 where
  pub program : BProgram
  pub accepted : IsBoogie bytes program
  pub number : ℕ
  pub named : procedure_named program name ≡ Some number
  pub is_there : slice_get program.procs number ≡ Some procedure

-- a text is refused for its prelude, its tokens or its brackets, or because it is ill-typed
pub data IsTextRefusal (bytes : List ℕ) : BoogieRefusal → Type 0 where
  prelude : {at : Pos} → IsFault bytes (fault.Prelude at) → IsTextRefusal bytes (Prelude at)
  deep : {at : Pos} → IsFault bytes (fault.Deep at) → IsTextRefusal bytes (Deep at)
  syntax : {at : Pos} → IsFault bytes (fault.Syntax at) → IsTextRefusal bytes (BoogieSyntax at)
  ill_typed : {program : BProgram} {number : ℕ} → IsRead bytes program → IsFirstIllTyped program number → IsTextRefusal bytes (BoogieType number)

-- the bytes of a file and the name of a procedure are refused, for the first of these reasons that stands
pub data IsRefusal (bytes name : List ℕ) : BoogieRefusal → Type 0 where
  size : max_boogie_bytes < length bytes → IsRefusal bytes name Size
  of_text : {r : BoogieRefusal} → length bytes ≤ max_boogie_bytes → IsTextRefusal bytes r → IsRefusal bytes name r
  no_procedure : {program : BProgram} → IsBoogie bytes program → procedure_named program name ≡ None → IsRefusal bytes name NoProcedure

-- exactly one procedure is accepted, or there is exactly one reason to refuse, and never both
pub data HasOneAnswer (bytes name : List ℕ) : Type 0 where
  is_accepted : {d : Proc} → Accepts bytes name d → ((other : Proc) → Accepts bytes name other → other ≡ d) → ((r : BoogieRefusal) → IsRefusal bytes name r → ⊥) → HasOneAnswer bytes name
  is_refused : {r : BoogieRefusal} → IsRefusal bytes name r → ((other : BoogieRefusal) → IsRefusal bytes name other → other ≡ r) → ((d : Proc) → Accepts bytes name d → ⊥) →
      HasOneAnswer bytes name
