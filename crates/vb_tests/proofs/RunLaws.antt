-- What a row runs can be run: a method of a program of Viper. The locals of the first procedure of a program of Boogie differ.
use Rattle.std.proofs.Common.{◌≡◌, ◌∙◌, ◌<◌, ap, refl, sym, ℕ, List, Option, Some, None, IfSome, Bor, length, map, slice_get, get_or}
use Rattle.std.specs.Option.{option_map, option_copied}
use Rattle.std.proofs.lemmas.Option.{slice_get-map, slice_get_read}
use Rattle.lemmas.proofs.Lists.{at_item}
use Rattle.vb_base.specs.Names.{NamesDiffer}
use Rattle.viper_core.specs.View.{body_of, method_of, program_of as viper_of}
use Rattle.viper_core.specs.declared.programs.Body.{Body}
use Rattle.viper_core.specs.declared.programs.Method.{Method}
use Rattle.viper_core.specs.declared.programs.Program.{Program}
use Rattle.viper_core.specs.declared.programs.Unit.{Unit as Part}
use Rattle.viper_core.specs.declared.programs.Unit.TheVariants as part
use Rattle.viper_exec_meaning.specs.Execution.{CanExecute}
use Rattle.boogie_tree.specs.Whole.{proc_of, program_of}
use Rattle.boogie_tree.specs.declared.programs.BProgram.{BProgram}
use Rattle.boogie_tree.specs.declared.programs.Proc.{Proc}
use Rattle.boogie_grammar.specs.Grammar.{local_names}
use Rattle.boogie_print.specs.Printable.{FitsProc, IsPrintable}
use Rattle.run_file.specs.Run.{ViperRun, SpellsViperRun}
use Rattle.run_file_laws.proofs.MethodLaws as methods

pub first_differs : (b : BProgram) → IsPrintable (program_of b) → (r : Option (Bor Proc)) → option_copied r ≡ slice_get b.procs.items 0 → IfSome r (λ d. NamesDiffer (local_names (proc_of d.now).locals))
first_differs b h None is = tt
first_differs b h (Some d) is =
    let there = slice_get-map proc_of b.procs.items 0 ∙ ap (option_map proc_of) (sym is) in
    (at_item FitsProc (map proc_of b.procs.items) h.procs 0 (proc_of d.now) there).locals_differ

pub can_execute : (bytes : List ℕ) (q : Program) (n k : ℕ) (w : Part) (m : Method) (body : Body) (run : ViperRun) → n < length q.units.items → w ≡ get_or q.units.items n w → w ≡ part.Method k →
    slice_get q.methods.items k ≡ Some m → m.body ≡ Some body → SpellsViperRun bytes (viper_of q) n run → CanExecute (viper_of q) k run.opening
can_execute bytes q n k w m body run within at is there has spelled =
    methods.can_execute bytes (viper_of q) n k (method_of m) (body_of body) run (slice_get_read q.units.items _ n w refl within at ∙ ap Some is)
    (slice_get-map method_of q.methods.items k ∙ ap (option_map method_of) there) (ap (option_map body_of) has) spelled
