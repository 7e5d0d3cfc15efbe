-- What can be printed: the procedures of a program that is read.
use Rattle.std.proofs.Common.{◌≡◌, ◌∙◌, refl, ap, subst, ℕ, List, [], ◌∷◌, ◌++◌, Option, Some, None, Result, Ok, Err, IfOk, IfSome, All, length, map}
use Rattle.std.specs.Option.{option_to_list}
use Rattle.std.proofs.lemmas.List.{map_push, drop_at}
use Rattle.std.proofs.lemmas.List.Elements.{All-drop, All-head}
use Rattle.boogie_tree.specs.Whole.{proc_of, program_of}
use Rattle.boogie_tree.specs.declared.programs.Proc.{Proc}
use Rattle.boogie_tree.specs.declared.programs.BProgram.{BProgram}
use Rattle.boogie_grammar.specs.declared.faults.BoogieFault.{BoogieFault}
use Rattle.boogie_print.specs.Read.{IsRead}
use Rattle.boogie_print.specs.Printable.{FitsProc, IsPrintable}
use Rattle.boogie_print.proofs.SpelledLaws.{spelled_printable}

pub read_printable : (bytes : List ℕ) (r : Result BProgram BoogieFault) → IfOk r (λ b. IsRead bytes (program_of b)) → IfOk r (λ b. IsPrintable (program_of b))
read_printable bytes (Ok b) h = spelled_printable bytes (program_of b) h.spelled
read_printable bytes (Err f) h = tt

last_has : {X : Type 0} (P : X → Type 0) (xs : List X) (x : X) → All P (xs ++ x ∷ []) → P x
last_has P xs x h = All-head P x [] (subst (λ ys. All P ys) (drop_at xs (x ∷ []) (length xs) refl) (All-drop P (length xs) (xs ++ x ∷ []) h))

pub popped_fits : (b : BProgram) (rest : List Proc) (r : Option Proc) → IsPrintable (program_of b) → b.procs.items ≡ rest ++ option_to_list r → IfSome r (λ d. FitsProc (proc_of d))
popped_fits b rest None h is = tt
popped_fits b rest (Some d) h is =
    last_has FitsProc (map proc_of rest) (proc_of d) (subst (All FitsProc) (ap (map proc_of) is ∙ map_push proc_of rest d) h.procs)
