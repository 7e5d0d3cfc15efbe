-- Which program with loops, calls and contracts the bytes of a file are, and why they are refused.
use Rattle.std.specs.Prelude.{◌<◌, ◌≤◌, ℕ, List, length}
use Rattle.vb_base.specs.Limits.{max_boogie_bytes}
use Rattle.vb_base.specs.declared.places.Pos.{Pos}
use Rattle.boogie_grammar.specs.declared.faults.BoogieFault.TheVariants as fault
use Rattle.boogie_loops.specs.Wide.{WProgram}
use Rattle.boogie_loops.specs.WideTypes.{IsWideProgram, IsFirstIllTypedWide}
use Rattle.boogie_loops_text.specs.Answers.{IsWideRead}
use Rattle.boogie_loops_text.specs.Faults.{IsWideFault}
use Rattle.vb_tool.specs.declared.status.Refusal.{Refusal}
use Rattle.vb_tool.specs.declared.status.Refusal.TheVariants.{Size, Prelude, Deep, BoogieSyntax, BoogieType}

-- the bytes are the text of this well-typed program, within the limits of a file and of brackets
pub record AcceptsCut (bytes : List ℕ) (program : WProgram) : Type 0 where
  pub small : length bytes ≤ max_boogie_bytes
  pub text : IsWideRead bytes program
  pub is_typed : IsWideProgram program

-- a text is refused for its prelude, its tokens or its brackets, or because it is ill-typed
pub data IsWideRefusal (bytes : List ℕ) : Refusal → Type 0 where
  prelude : {at : Pos} → IsWideFault bytes (fault.Prelude at) → IsWideRefusal bytes (Prelude at)
  deep : {at : Pos} → IsWideFault bytes (fault.Deep at) → IsWideRefusal bytes (Deep at)
  syntax : {at : Pos} → IsWideFault bytes (fault.Syntax at) → IsWideRefusal bytes (BoogieSyntax at)
  ill_typed : {program : WProgram} {number : ℕ} → IsWideRead bytes program → IsFirstIllTypedWide program number → IsWideRefusal bytes (BoogieType number)

-- `cut` refuses the bytes of its file, for the first of these reasons that stands
pub data IsCutRefusal (bytes : List ℕ) : Refusal → Type 0 where
  size : max_boogie_bytes < length bytes → IsCutRefusal bytes Size
  of_text : {r : Refusal} → length bytes ≤ max_boogie_bytes → IsWideRefusal bytes r → IsCutRefusal bytes r
