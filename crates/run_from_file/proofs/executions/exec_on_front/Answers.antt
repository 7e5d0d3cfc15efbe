use Rattle.std.proofs.Common.{sym, subst}
use Rattle.viper_core.specs.View.{program_of}
use Rattle.viper_exec_meaning.specs.Execution.{CanExecute}
use Rattle.run_file.specs.View.{front_view}
use Rattle.run_from_file.proofs.FrontLaws.{opening_same, front_opening_within, front_choices_within, front_choices_fit}
use Rattle.run_from_file.proofs.executions.exec_on_front.Goals as goal

pub exec_method-requires-clause-opening_within : goal.exec_method-requires-clause-opening_within
exec_method-requires-clause-opening_within c = front_opening_within c.args.bytes.now (program_of c.args.program.now) c.args.task.unit c.args.many (front_view c.in_ok-front.front) c.in_ok-front.ensures.run

pub exec_method-requires-clause-choices_within : goal.exec_method-requires-clause-choices_within
exec_method-requires-clause-choices_within c = front_choices_within c.args.bytes.now (program_of c.args.program.now) c.args.task.unit c.args.many (front_view c.in_ok-front.front) c.in_ok-front.ensures.run

pub exec_method-requires-clause-choices_fit : goal.exec_method-requires-clause-choices_fit
exec_method-requires-clause-choices_fit c = front_choices_fit c.args.bytes.now (program_of c.args.program.now) c.args.task.unit c.args.many (front_view c.in_ok-front.front) c.in_ok-front.ensures.run

pub exec_method-requires-clause-opens : goal.exec_method-requires-clause-opens
exec_method-requires-clause-opens c =
    let p = program_of c.args.program.now in
    let front = c.in_ok-front.ensures.run in
    subst (CanExecute p c.args.task.method) (sym (opening_same c.args.bytes.now p c.args.task.unit c.args.many (front_view c.in_ok-front.front) front)) (c.requires.opens front.0 front.1.0)
