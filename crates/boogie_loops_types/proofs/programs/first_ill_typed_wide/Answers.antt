use Rattle.std.proofs.Common.{map, sym, ap, ◌∙◌}
use Rattle.boogie_loops.specs.View.{wproc_of, wprogram_of}
use Rattle.boogie_loops.specs.WideTypes.{ill_typed_wide}
use Rattle.boogie_loops_types.proofs.ProgramLaws.{none_where_typed, some_is_first}
use Rattle.boogie_loops_types.proofs.programs.first_ill_typed_wide.Goals as goal

pub returns-clause-typed : goal.returns-clause-typed
returns-clause-typed c =
    none_where_typed (wprogram_of c.args.program.now) c.first_of.result
    (c.first_of.ensures ∙ ap (λ ds. ill_typed_wide (map wproc_of ds) (map wproc_of ds)) (c.in_ok-procs.ensures ∙ c.deref.ensures.value))

pub returns-clause-first : goal.returns-clause-first
returns-clause-first c =
    some_is_first (wprogram_of c.args.program.now) c.first_of.result
    (c.first_of.ensures ∙ ap (λ ds. ill_typed_wide (map wproc_of ds) (map wproc_of ds)) (c.in_ok-procs.ensures ∙ c.deref.ensures.value))
