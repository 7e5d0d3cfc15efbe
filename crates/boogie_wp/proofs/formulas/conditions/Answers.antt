use Rattle.std.proofs.lemmas.Result.{IfOk-weaker}
use Rattle.boogie_formula.specs.View.{conditions_of}
use Rattle.boogie_wp.proofs.ProcedureLaws.{typed_there, they_are_built, they_follow, they_are_exact, they_are_typed, they_are_printable}
use Rattle.boogie_wp.proofs.formulas.conditions.Goals as goal

pub conditions_of_procedure-requires : goal.conditions_of_procedure-requires
conditions_of_procedure-requires c =
    (typed_there c.args.program.now.procs.items c.args.proc c.index.result.now c.requires.typed c.requires.exists c.index.ensures).1

pub returns : goal.returns
returns c =
    let ds = c.args.program.now.procs.items in
    let d = c.index.result.now in
    let this = typed_there ds c.args.proc d c.requires.typed c.requires.exists c.index.ensures in
    record {
      built = λ e h. IfOk-weaker c.conditions_of_procedure.result _ _ (λ x is. they_are_built ds c.args.proc d this.0 this.1 (conditions_of x) is e h) c.conditions_of_procedure.ensures.built;
      follows = λ e h. IfOk-weaker c.conditions_of_procedure.result _ _ (λ x is. they_follow ds c.args.proc d this.0 this.1 (conditions_of x) is e h) c.conditions_of_procedure.ensures.built;
      exact = λ e h. IfOk-weaker c.conditions_of_procedure.result _ _ (λ x is. they_are_exact ds c.args.proc d this.0 this.1 (conditions_of x) is e h) c.conditions_of_procedure.ensures.built;
      typed = IfOk-weaker c.conditions_of_procedure.result _ _ (λ x is. they_are_typed ds c.args.proc d this.0 this.1 (conditions_of x) is) c.conditions_of_procedure.ensures.built;
      printable = λ e h fits. IfOk-weaker c.conditions_of_procedure.result _ _ (λ x is. they_are_printable ds c.args.proc d this.0 this.1 (conditions_of x) is e h fits) c.conditions_of_procedure.ensures.built;
    }
