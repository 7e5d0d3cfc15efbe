use Rattle.std.proofs.Common.{refl}
use Rattle.viper_core.specs.View.{body_of, method_of, program_of}
use Rattle.viper_state.specs.View.{opening_of}
use Rattle.viper_meaning.proofs.FormedLiterals.{program_within}
use Rattle.viper_run.proofs.UnitLaws.{start_ready}
use Rattle.viper_exec.proofs.TakesLaws.{handed_on}
use Rattle.viper_exec.proofs.EndLaws.{start_stops, start_ends, start_goes}
use Rattle.viper_exec.proofs.executions.exec_begun.Goals as goal

pub returns-in_err-first : goal.returns-in_err-first
returns-in_err-first c =
    handed_on _ _ c.from_residual.ensures.1 (start_stops (program_of c.args.program.now) (method_of c.args.method.now) (body_of c.args.body.now) (opening_of c.args.opening.now) c.args.budget.now c.in_err-first.ensures)

pub exec_body-requires-clause-ready : goal.exec_body-requires-clause-ready
exec_body-requires-clause-ready c =
    let p = program_of c.args.program.now in
    let m = method_of c.args.method.now in
    start_ready p m (opening_of c.args.opening.now) m.vars c.in_ok-first.ensures refl (program_within p c.requires.formed) c.requires.body.method_within c.requires.begin

pub returns-in_err-last : goal.returns-in_err-last
returns-in_err-last c =
    handed_on _ _ c.from_residual-in_err-last.ensures.1 (start_ends (program_of c.args.program.now) (method_of c.args.method.now) (body_of c.args.body.now) (opening_of c.args.opening.now) c.args.budget.now
    c.in_ok-first.ensures c.in_err-last.ensures)

pub returns : goal.returns
returns c =
    start_goes (program_of c.args.program.now) (method_of c.args.method.now) (body_of c.args.body.now) (opening_of c.args.opening.now) c.args.budget.now c.in_ok-first.ensures _ refl c.in_ok-last.ensures
