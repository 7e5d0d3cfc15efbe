-- What the steps from a file to its procedure refuse, and what they tell.
use Rattle.std.proofs.Common.{◌≡◌, ◌+◌, ◌≤◌, ℕ, Bool as Truth, not, cond, List, [], ◌∷◌, length, get_or, map, Some, None, slice_get, refl, sym, ap, subst}
use Rattle.std.specs.List.{position, prefix_len}
use Rattle.std.specs.Str.{bytes_eq}
use Rattle.std.proofs.lemmas.List.{length-map}
use Rattle.vb_base.specs.Limits.{max_boogie_bytes}
use Rattle.lemmas.proofs.Lists.{all_at}
use Rattle.boogie_tree.specs.Program as p
use Rattle.boogie_tree.specs.Program.{BProgram}
use Rattle.boogie_tree.specs.Whole.{proc_of, program_of}
use Rattle.boogie_tree.specs.declared.programs.BProgram.{BProgram as Program}
use Rattle.boogie_tree.specs.declared.programs.Proc.{Proc}
use Rattle.boogie_meaning.specs.Programs.{IsFirstIllTyped}
use Rattle.boogie_grammar.specs.Faults.{IsFault}
use Rattle.boogie_grammar.specs.declared.faults.BoogieFault.{BoogieFault}
use Rattle.boogie_grammar.specs.declared.faults.BoogieFault.TheVariants as fault
use Rattle.boogie_print.specs.Read.{IsRead}
use Rattle.boogie_text.specs.Answers.{UnlessMemory}
use Rattle.boogie_print.specs.Printable.{FitsProc}
use Rattle.boogie_print.proofs.SpelledLaws.{spelled_printable}
use Rattle.boogie_run.proofs.StartLaws.{is_there, proc_there}
use Rattle.boogie_file.specs.Accepted.{IsBoogie, procedure_named, IsTextRefusal, prelude, deep, syntax, ill_typed, IsRefusal, of_text, no_procedure}
use Rattle.boogie_file.specs.Parts.{trouble_of_boogie}
use Rattle.boogie_file.specs.declared.refusal.BoogieRefusal.{BoogieRefusal}
use Rattle.boogie_file.specs.declared.refusal.BoogieRefusal.TheVariants as refusal
use Rattle.boogie_file.specs.declared.trouble.BoogieTrouble.TheVariants as trouble
use Rattle.boogie_file.proofs.Verdicts.{named_within}

-- ---- the program

pub read_refusal : (bytes : List ℕ) (f : BoogieFault) (r : BoogieRefusal) → UnlessMemory (IsFault bytes) f → trouble_of_boogie f ≡ trouble.Refused r → IsTextRefusal bytes r
read_refusal bytes fault.Memory r is is_r = absurd cc
read_refusal bytes (fault.Prelude at) r is is_r = let same : refusal.Prelude at ≡ r = cc in subst (IsTextRefusal bytes) same (prelude is)
read_refusal bytes (fault.Syntax at) r is is_r = let same : refusal.BoogieSyntax at ≡ r = cc in subst (IsTextRefusal bytes) same (syntax is)
read_refusal bytes (fault.Deep at) r is is_r = let same : refusal.Deep at ≡ r = cc in subst (IsTextRefusal bytes) same (deep is)

pub type_refusal : (bytes : List ℕ) (q : BProgram) (n : ℕ) (r : BoogieRefusal) → IsRead bytes q → IsFirstIllTyped q n → trouble.Refused (refusal.BoogieType n) ≡ trouble.Refused r → IsTextRefusal bytes r
type_refusal bytes q n r is first is_r = let same : refusal.BoogieType n ≡ r = cc in subst (IsTextRefusal bytes) same (ill_typed is first)

-- ---- the procedure of a name

prefix_mapped : {X Y : Type 0} (f : X → Y) (test : Y → Truth) (xs : List X) → prefix_len test (map f xs) ≡ prefix_len (λ x. test (f x)) xs
prefix_mapped f test [] = refl
prefix_mapped f test (x ∷ xs) = ap (λ n. cond (test (f x)) (1 + n) 0) (prefix_mapped f test xs)

position_mapped : {X Y : Type 0} (f : X → Y) (test : Y → Truth) (xs : List X) → position test (map f xs) ≡ position (λ x. test (f x)) xs
position_mapped f test xs = rw (prefix_mapped f (λ y. not (test y)) xs, length-map xs f) refl

pub named_in : (ds : List Proc) (name : List ℕ) → position (λ d. bytes_eq (proc_of d).name name) ds ≡ position (λ (d : p.Proc). bytes_eq d.name name) (map proc_of ds)
named_in ds name = sym (position_mapped proc_of (λ (d : p.Proc). bytes_eq d.name name) ds)

pub named_there : (b : Program) (name : List ℕ) (n : ℕ) (d : Proc) → procedure_named (program_of b) name ≡ Some n → d ≡ get_or b.procs.items n d → slice_get (program_of b).procs n ≡ Some (proc_of d)
named_there b name n d named at = proc_there b.procs.items n d (is_there b.procs.items n d (named_within (program_of b) name n named) at)

-- a procedure of a text can be printed
pub fits_proc : (bytes : List ℕ) (q : BProgram) (n : ℕ) (d : p.Proc) → IsRead bytes q → slice_get q.procs n ≡ Some d → FitsProc d
fits_proc bytes q n d h there = all_at FitsProc q.procs n d (spelled_printable bytes q h.spelled).procs there

-- ---- refusals

pub text_refused : {bytes name : List ℕ} {r : BoogieRefusal} → length bytes ≤ max_boogie_bytes → IsTextRefusal bytes r → IsRefusal bytes name r
text_refused small is = of_text small is

pub name_refused : (bytes name : List ℕ) (q : BProgram) (r : BoogieRefusal) → IsBoogie bytes q → procedure_named q name ≡ None → trouble.Refused refusal.NoProcedure ≡ trouble.Refused r →
    IsRefusal bytes name r
name_refused bytes name q r is none is_r = let same : refusal.NoProcedure ≡ r = cc in subst (IsRefusal bytes name) same (no_procedure is none)
