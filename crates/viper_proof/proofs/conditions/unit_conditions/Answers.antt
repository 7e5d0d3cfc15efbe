use Rattle.std.proofs.Common.{length, ap, sym, subst}
use Rattle.lemmas.proofs.Lists.{item_there}
use Rattle.viper_core.specs.View.{program_of}
use Rattle.boogie_tree.specs.Fits.{FitStmts}
use Rattle.boogie_tree.specs.Program.{Proc}
use Rattle.boogie_print.specs.Printable.{IsFreeName}
use Rattle.enc_units.proofs.ProgramLaws.{procedure_fits}
use Rattle.viper_proof.proofs.conditions.unit_conditions.Goals as goal

pub returns-clause-named : goal.returns-clause-named
returns-clause-named c x there = ap (λ (d : Proc). d.name) (c.in_ok-procedure.ensures.procedure x there)

pub returns-clause-free : goal.returns-clause-free
returns-clause-free c =
    let p = program_of c.args.program.now in
    let (x, there) = item_there p.units c.args.unit c.requires.exists in
    subst IsFreeName (sym (ap (λ (d : Proc). d.name) (c.in_ok-procedure.ensures.procedure x there))) (procedure_fits p c.requires.formed c.args.unit x there).name

pub returns-clause-printable : goal.returns-clause-printable
returns-clause-printable c =
    let p = program_of c.args.program.now in
    let (x, there) = item_there p.units c.args.unit c.requires.exists in
    c.in_ok-conditions.ensures.printable
    (subst (λ (d : Proc). FitStmts (length d.locals) d.body) (sym (c.in_ok-procedure.ensures.procedure x there)) (procedure_fits p c.requires.formed c.args.unit x there).body)

pub returns-clause-exact : goal.returns-clause-exact
returns-clause-exact c label =
    let unit = c.in_ok-procedure.ensures.exact label in let made = c.in_ok-conditions.ensures.exact label in
    (λ fails. made.0 (unit.1 fails), λ fails. unit.0 (made.1 fails))
