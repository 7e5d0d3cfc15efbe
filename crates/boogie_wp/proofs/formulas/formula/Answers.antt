use Rattle.std.proofs.lemmas.Result.{IfOk-weaker}
use Rattle.boogie_formula.specs.View.{formula_of}
use Rattle.boogie_wp.proofs.ProcedureLaws.{typed_there, it_is_built, it_follows, it_is_exact, it_is_typed, it_is_printable}
use Rattle.boogie_wp.proofs.formulas.formula.Goals as goal

pub formula_of_procedure-requires : goal.formula_of_procedure-requires
formula_of_procedure-requires c =
    (typed_there c.args.program.now.procs.items c.args.proc c.index.result.now c.requires.typed c.requires.exists c.index.ensures).1

pub returns : goal.returns
returns c =
    let ds = c.args.program.now.procs.items in
    let d = c.index.result.now in
    let this = typed_there ds c.args.proc d c.requires.typed c.requires.exists c.index.ensures in
    record {
      built = λ e h. IfOk-weaker c.formula_of_procedure.result _ _ (λ f is. it_is_built ds c.args.proc d this.0 this.1 c.args.label.now (formula_of f) is e h) c.formula_of_procedure.ensures;
      follows = λ e h. IfOk-weaker c.formula_of_procedure.result _ _ (λ f is. it_follows ds c.args.proc d this.0 this.1 c.args.label.now (formula_of f) is e h) c.formula_of_procedure.ensures;
      exact = λ e h. IfOk-weaker c.formula_of_procedure.result _ _ (λ f is. it_is_exact ds c.args.proc d this.0 this.1 c.args.label.now (formula_of f) is e h) c.formula_of_procedure.ensures;
      typed = IfOk-weaker c.formula_of_procedure.result _ _ (λ f is. it_is_typed ds c.args.proc d this.0 this.1 c.args.label.now (formula_of f) is) c.formula_of_procedure.ensures;
      printable = λ e h fits. IfOk-weaker c.formula_of_procedure.result _ _ (λ f is. it_is_printable ds c.args.proc d this.0 this.1 c.args.label.now (formula_of f) is e h fits) c.formula_of_procedure.ensures;
    }
