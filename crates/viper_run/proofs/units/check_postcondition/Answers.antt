use Rattle.std.proofs.Common.{sym}
use Rattle.vb_value.specs.Bound.{Bounded}
use Rattle.viper_core.specs.View.{assertions_of, method_of}
use Rattle.viper_state.specs.View.{state_of}
use Rattle.viper_state.specs.Within.{IsWithinChoice}
use Rattle.viper_meaning.specs.Statements as m
use Rattle.viper_eval.specs.View.{lent}
use Rattle.viper_inhale.proofs.DoesLaws.{passed, same_run}
use Rattle.viper_run.specs.View.{activation_of, configuration_of}
use Rattle.viper_run.proofs.ReadyLaws.{left_kept}
use Rattle.viper_run.proofs.StartLaws.{starts}
use Rattle.viper_run.proofs.UnitLaws.{any_stops, check_stops, check_ends}
use Rattle.viper_run.proofs.units.check_postcondition.Goals as goal

pub returns-in_err-any : goal.returns-in_err-any
returns-in_err-any c =
    passed _ _ c.from_residual.ensures.1 (any_stops (activation_of c.args.activation) (method_of c.args.method.now) (configuration_of c.args.configuration.now) c.in_err-any.ensures)

pub produce_all-requires-clause-state_within : goal.produce_all-requires-clause-state_within
produce_all-requires-clause-state_within c = (starts (activation_of c.args.activation).program c.requires.ready.state.choices c.requires.ready.state.fit c.in_ok-any.ensures).within

pub produce_all-requires-clause-choices_within : goal.produce_all-requires-clause-choices_within
produce_all-requires-clause-choices_within c = left_kept IsWithinChoice c.requires.ready.state.choices c.in_ok-any.ensures

pub returns-in_err-produce_all : goal.returns-in_err-produce_all
returns-in_err-produce_all c =
    passed _ _ c.from_residual-in_err-produce_all.ensures.1 (check_stops (activation_of c.args.activation) (method_of c.args.method.now) (configuration_of c.args.configuration.now) c.scene-scene.ensures c.in_ok-any.ensures
    (same_run (λ i. m.produce_all Bounded (assertions_of (sym c.deref.ensures.value i)) (lent c.scene-scene.result) (state_of c.in_ok-any.any)) c.in_err-produce_all.ensures))

pub returns : goal.returns
returns c =
    check_ends (activation_of c.args.activation) (method_of c.args.method.now) (configuration_of c.args.configuration.now) c.scene-scene.ensures c.in_ok-any.ensures
    (same_run (λ i. m.produce_all Bounded (assertions_of (sym c.deref.ensures.value i)) (lent c.scene-scene.result) (state_of c.in_ok-any.any)) c.in_ok-produce_all.ensures)
