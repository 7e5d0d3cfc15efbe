use Rattle.std.proofs.Common.{◌≡◌, Some, None, map, refl, sym, ap, ◌∙◌}
use Rattle.boogie_loops.specs.View.{wproc_of, wprogram_of}
use Rattle.boogie_loops.specs.WideTypes.{ill_typed_wide}
use Rattle.boogie_loops.proofs.WideTypeLaws.{none_ill_typed, none_ill_typed_back, is_first_wide}
use Rattle.boogie_loops_types.proofs.programs.check_wide.Goals as goal

pub returns-in-Some-clause-typed : goal.returns-in-Some-clause-typed
returns-in-Some-clause-typed c = (
  λ e. absurd (cc),
  λ h.
      let none = none_ill_typed_back (wprogram_of c.args.program.now) h in
      let some = sym (ap (λ ds. ill_typed_wide (map wproc_of ds) (map wproc_of ds)) (c.without_table-procs.ensures ∙ c.deref.ensures.value)) ∙ sym c.first_of.ensures ∙ c.in-Some.is in
      let apart : None ≡ Some c.in-Some.number = sym none ∙ some in absurd (cc),
)

pub returns-in-Some-clause-first : goal.returns-in-Some-clause-first
returns-in-Some-clause-first c =
    is_first_wide (wprogram_of c.args.program.now) c.in-Some.number
    (sym (ap (λ ds. ill_typed_wide (map wproc_of ds) (map wproc_of ds)) (c.without_table-procs.ensures ∙ c.deref.ensures.value)) ∙ sym c.first_of.ensures ∙ c.in-Some.is)

pub returns-clause-typed : goal.returns-clause-typed
returns-clause-typed c = (
  λ e. none_ill_typed (wprogram_of c.args.program.now)
      (sym (ap (λ ds. ill_typed_wide (map wproc_of ds) (map wproc_of ds)) (c.without_table-procs.ensures ∙ c.deref.ensures.value)) ∙ sym c.first_of.ensures ∙ c.in-None.is),
  λ h. refl,
)
