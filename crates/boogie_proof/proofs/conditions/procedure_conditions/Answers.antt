use Rattle.std.proofs.Common.{◌∙◌, sym, subst}
use Rattle.boogie_formula.specs.View.{conditions_of}
use Rattle.boogie_print.specs.Printable.{IsFreeName}
use Rattle.boogie_tree.specs.Whole.{program_of, proc_of}
use Rattle.boogie_proof.proofs.AnswerLaws.{procedure_there, has_its_name, fits, exact_there}
use Rattle.boogie_proof.proofs.conditions.procedure_conditions.Goals as goal

pub returns-clause-named : goal.returns-clause-named
returns-clause-named c d there =
    let this = procedure_there c.args.program.now.procs.items c.args.number c.index.result.now c.requires.exists c.index.ensures in
    c.in_ok-name.ensures ∙ has_its_name (program_of c.args.program.now) c.args.number (proc_of c.index.result.now) this d there

pub returns-clause-free : goal.returns-clause-free
returns-clause-free c =
    let this = procedure_there c.args.program.now.procs.items c.args.number c.index.result.now c.requires.exists c.index.ensures in
    subst IsFreeName (sym c.in_ok-name.ensures) (fits (program_of c.args.program.now) c.args.number (proc_of c.index.result.now) this c.requires.is_printable).name

pub returns-clause-printable : goal.returns-clause-printable
returns-clause-printable c =
    let this = procedure_there c.args.program.now.procs.items c.args.number c.index.result.now c.requires.exists c.index.ensures in
    c.in_ok-conditions.ensures.printable (proc_of c.index.result.now) this
    (fits (program_of c.args.program.now) c.args.number (proc_of c.index.result.now) this c.requires.is_printable).body

pub returns-clause-exact : goal.returns-clause-exact
returns-clause-exact c =
    let this = procedure_there c.args.program.now.procs.items c.args.number c.index.result.now c.requires.exists c.index.ensures in
    exact_there (program_of c.args.program.now) c.args.number (proc_of c.index.result.now) this (conditions_of c.in_ok-conditions.conditions)
    (c.in_ok-conditions.ensures.exact (proc_of c.index.result.now) this)
