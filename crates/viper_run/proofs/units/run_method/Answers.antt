use Rattle.std.proofs.Common.{ap}
use Rattle.std.specs.Option.{option_map}
use Rattle.viper_core.specs.View.{body_of, method_of}
use Rattle.viper_inhale.proofs.DoesLaws.{passed}
use Rattle.viper_run.specs.View.{activation_of, configuration_of}
use Rattle.viper_run.proofs.ReadyLaws.{still_ready}
use Rattle.viper_run.proofs.UnitLaws.{branch_stops, body_runs, check_runs, without_body}
use Rattle.viper_run.proofs.units.run_method.Goals as goal

pub returns-in_err-take_branch-in-Some : goal.returns-in_err-take_branch-in-Some
returns-in_err-take_branch-in-Some c =
    passed _ _ c.from_residual.ensures.1 (branch_stops (activation_of c.args.activation) (method_of c.args.method.now) (configuration_of c.args.configuration.now) (body_of c.in-Some.body) (ap (option_map body_of) c.in-Some.is)
    c.in_err-take_branch-in-Some.ensures)

pub run_body-requires-clause-ready : goal.run_body-requires-clause-ready
run_body-requires-clause-ready c = still_ready c.requires.ready c.in_ok-take_branch-in-Some.ensures

pub check_postcondition-requires-clause-ready : goal.check_postcondition-requires-clause-ready
check_postcondition-requires-clause-ready c = still_ready c.requires.ready c.in_ok-take_branch-in-Some.ensures

pub returns-then-branch : goal.returns-then-branch
returns-then-branch c =
    body_runs (activation_of c.args.activation) (method_of c.args.method.now) (configuration_of c.args.configuration.now) (body_of c.in-Some.body) (ap (option_map body_of) c.in-Some.is)
    c.in_ok-take_branch-in-Some.ensures c.if-branch.true c.run_body.ensures

pub returns-else-branch : goal.returns-else-branch
returns-else-branch c =
    check_runs (activation_of c.args.activation) (method_of c.args.method.now) (configuration_of c.args.configuration.now) (body_of c.in-Some.body) (ap (option_map body_of) c.in-Some.is)
    c.in_ok-take_branch-in-Some.ensures c.if-branch.false c.check_postcondition.ensures

pub returns-in-None : goal.returns-in-None
returns-in-None c =
    without_body (activation_of c.args.activation) (method_of c.args.method.now) (configuration_of c.args.configuration.now) (ap (option_map body_of) c.in-None.is) c.check_postcondition-in-None.ensures
