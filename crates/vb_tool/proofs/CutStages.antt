-- What the stages of `cut` refuse, and what they write.
use Rattle.std.proofs.Common.{◌≡◌, ◌∙◌, ◌≤◌, ℕ, List, length, ap, subst}
use Rattle.vb_base.specs.Limits.{max_boogie_bytes}
use Rattle.boogie_tree.specs.Whole.{program_of}
use Rattle.boogie_tree.specs.declared.programs.BProgram.{BProgram as Program}
use Rattle.boogie_grammar.specs.Printed.{program_text}
use Rattle.boogie_grammar.specs.Spells.{BSpells}
use Rattle.boogie_grammar.specs.declared.faults.BoogieFault.{BoogieFault}
use Rattle.boogie_grammar.specs.declared.faults.BoogieFault.TheVariants as fault
use Rattle.boogie_text.specs.Answers.{UnlessMemory}
use Rattle.boogie_print.proofs.Parsed.{one_program}
use Rattle.boogie_loops.specs.Wide.{WProgram}
use Rattle.boogie_loops.specs.WideTypes.{IsFirstIllTypedWide}
use Rattle.boogie_cut.specs.Cut.{cut_program}
use Rattle.boogie_cut.proofs.FollowsLaws.{program_follows}
use Rattle.boogie_cut_text.specs.Printable.{IsPrintableWide}
use Rattle.boogie_cut.proofs.TypedLaws.{program_typed}
use Rattle.boogie_loops_text.specs.Answers.{IsWideRead}
use Rattle.boogie_loops_text.specs.Faults.{IsWideFault}
use Rattle.boogie_loops_text.proofs.WideSpelledLaws.{wide_spelled}
use Rattle.vb_tool.specs.AcceptedCut.{AcceptsCut, IsWideRefusal, prelude, deep, syntax, ill_typed, IsCutRefusal, of_text}
use Rattle.vb_tool.specs.Converted.{trouble_of_boogie}
use Rattle.vb_tool.specs.Parts.{CutOf}
use Rattle.vb_tool.specs.declared.status.Refusal.{Refusal}
use Rattle.vb_tool.specs.declared.status.Refusal.TheVariants as refusal
use Rattle.vb_tool.specs.declared.status.Status.{Status}
use Rattle.vb_tool.specs.declared.status.Status.TheVariants as status
use Rattle.vb_tool.specs.declared.trouble.Trouble.TheVariants as trouble

-- ---- the program

pub read_refusal : (bytes : List ℕ) (f : BoogieFault) (r : Refusal) → UnlessMemory (IsWideFault bytes) f → trouble_of_boogie f ≡ trouble.Refused r → IsWideRefusal bytes r
read_refusal bytes fault.Memory r is is_r = absurd cc
read_refusal bytes (fault.Prelude at) r is is_r = let same : refusal.Prelude at ≡ r = cc in subst (IsWideRefusal bytes) same (prelude is)
read_refusal bytes (fault.Syntax at) r is is_r = let same : refusal.BoogieSyntax at ≡ r = cc in subst (IsWideRefusal bytes) same (syntax is)
read_refusal bytes (fault.Deep at) r is is_r = let same : refusal.Deep at ≡ r = cc in subst (IsWideRefusal bytes) same (deep is)

pub type_refusal : (bytes : List ℕ) (q : WProgram) (n : ℕ) (r : Refusal) → IsWideRead bytes q → IsFirstIllTypedWide q n → trouble.Refused (refusal.BoogieType n) ≡ trouble.Refused r → IsWideRefusal bytes r
type_refusal bytes q n r is first is_r = let same : refusal.BoogieType n ≡ r = cc in subst (IsWideRefusal bytes) same (ill_typed is first)

pub text_refused : {bytes : List ℕ} {r : Refusal} → length bytes ≤ max_boogie_bytes → IsWideRefusal bytes r → IsCutRefusal bytes r
text_refused small is = of_text small is

-- ---- what is written

-- what is written for the program of a text can be printed
pub printable_wide : (bytes : List ℕ) (q : WProgram) → AcceptsCut bytes q → IsPrintableWide q
printable_wide bytes q h =
    let is = wide_spelled bytes q h.text.spelled in
    record { typed = h.is_typed; apart = is.0; free = is.1; literals = is.2 }

pub cut_is : (bytes : List ℕ) (q : WProgram) (written : Program) (text : List ℕ) (s : Status) → AcceptsCut bytes q → program_of written ≡ cut_program q →
    text ≡ program_text (program_of written) → BSpells text (program_of written) → s ≡ status.Done → CutOf bytes s text
cut_is bytes q written text s h same is_text spelled is_s = record {
  program = q;
  accepted = h;
  status_is = is_s;
  text_is = is_text ∙ ap program_text same;
  cut = record {
    written = cut_program q;
    spelled = subst (BSpells text) same spelled;
    only = λ b also. one_program text b (cut_program q) also (subst (BSpells text) same spelled);
    typed = program_typed q h.is_typed;
    follows = program_follows q h.is_typed;
  };
}
