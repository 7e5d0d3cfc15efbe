-- A program as code has it: each procedure has fewer than 2^64 variables, since these stand in a vector.
use Rattle.std.proofs.Common.{◌≡◌, ◌<◌, ◌^◌, List, [], ◌∷◌, length, map, All, Result, Ok, Err, IfOk, sym, subst, arith}
use Rattle.std.proofs.lemmas.List.{length-map}
use Rattle.std.proofs.lemmas.List.Elements.{All-nil, All-cons}
use Rattle.std.specs.declared.alloc.Global.{Global}
use Rattle.std.specs.declared.vec.Vec.{Vec}
use Rattle.boogie_tree.specs.Program as p
use Rattle.boogie_tree.specs.Whole.{local_of, proc_of, program_of}
use Rattle.boogie_tree.specs.declared.programs.BProgram.{BProgram as Program}
use Rattle.boogie_tree.specs.declared.programs.Local.{Local}
use Rattle.boogie_tree.specs.declared.programs.Proc.{Proc}
use Rattle.boogie_print.specs.Printable.{IsPrintable}
use Rattle.boogie_loops.specs.Wide.{WProgram}
use Rattle.boogie_cut.specs.Cut.{cut_program}
use Rattle.boogie_cut_text.specs.Printable.{IsPrintableWide, AreFewLocals}
use Rattle.boogie_cut_text.proofs.PrintableLaws.{printable}

few_locals : (v : Vec Local Global) → length (map local_of v.items) < 2 ^ 64
few_locals v = let same : length (map local_of v.items) ≡ length v.items = length-map v.items local_of in omega (arith, same)

few_each : (ds : List Proc) → All (λ (d : p.Proc). length d.locals < 2 ^ 64) (map proc_of ds)
few_each [] = All-nil (λ (d : p.Proc). length d.locals < 2 ^ 64)
few_each (d ∷ ds) = All-cons (λ (d : p.Proc). length d.locals < 2 ^ 64) (proc_of d) (map proc_of ds) (few_locals d.locals) (few_each ds)

written_printable : (q : WProgram) (written : Program) → program_of written ≡ cut_program q → IsPrintableWide q → IsPrintable (program_of written)
written_printable q written same h =
    let few : AreFewLocals (cut_program q) = subst AreFewLocals same (few_each written.procs.items) in
    subst IsPrintable (sym same) (printable q h few)

pub result_printable : {E : Type 0} (q : WProgram) (r : Result Program E) → IfOk r (λ b. program_of b ≡ cut_program q) → IsPrintableWide q → IfOk r (λ b. IsPrintable (program_of b))
result_printable q (Ok written) same h = written_printable q written same h
result_printable q (Err e) same h = same
