use Rattle.std.proofs.Common.{◌≡◌, Some, None, map, refl, sym, ap, ◌∙◌}
use Rattle.boogie_tree.specs.Whole.{program_of, proc_of}
use Rattle.boogie_meaning.specs.Programs.{ill_typed_among}
use Rattle.boogie_meaning.proofs.ProgramLaws.{no_ill_typed, no_ill_typed_back, is_first}
use Rattle.boogie_types.proofs.typing.check_types.Goals as goal

pub returns-in-Some-clause-typed : goal.returns-in-Some-clause-typed
returns-in-Some-clause-typed c = (
  λ e. absurd (cc),
  λ h.
      let none = no_ill_typed_back (program_of c.args.program.now) h in
      let some = sym (ap (λ ds. ill_typed_among (map proc_of ds)) c.deref.ensures.value) ∙ sym c.first_ill_typed.ensures ∙ c.in-Some.is in
      let apart : None ≡ Some c.in-Some.number = sym none ∙ some in absurd (cc),
)

pub returns-in-Some-clause-first : goal.returns-in-Some-clause-first
returns-in-Some-clause-first c =
    is_first (program_of c.args.program.now) c.in-Some.number (sym (ap (λ ds. ill_typed_among (map proc_of ds)) c.deref.ensures.value) ∙ sym c.first_ill_typed.ensures ∙ c.in-Some.is)

pub returns-in-None-clause-typed : goal.returns-in-None-clause-typed
returns-in-None-clause-typed c =
    (λ e. no_ill_typed (program_of c.args.program.now) (sym (ap (λ ds. ill_typed_among (map proc_of ds)) c.deref.ensures.value) ∙ sym c.first_ill_typed.ensures ∙ c.in-None.is), λ h. refl)
