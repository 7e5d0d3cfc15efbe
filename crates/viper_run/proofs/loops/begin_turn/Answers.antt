use Rattle.std.proofs.Common.{true}
use Rattle.viper_core.specs.View.{assertions_of, expr_of}
use Rattle.viper_inhale.proofs.DoesLaws.{passed}
use Rattle.viper_inhale.proofs.FormLaws.{first_stops, both_go}
use Rattle.viper_run.specs.Steps.{guarded}
use Rattle.viper_run.specs.View.{activation_of, configuration_of}
use Rattle.viper_run.proofs.ChoiceLaws.{state_then}
use Rattle.viper_run.proofs.StartLaws.{starts}
use Rattle.viper_run.proofs.loops.begin_turn.Goals as goal

pub assume_guard-requires : goal.assume_guard-requires
assume_guard-requires c =
    let r = c.requires.ready in
    record {
      guard_within = c.requires.guard_within;
      invariants_within = c.requires.invariants_within;
      ready = record { program = r.program; old = r.old; store = r.store; state = starts (activation_of c.args.activation).program r.state.choices r.state.fit c.in_ok-configuration.ensures };
    }

pub returns-in_err-configuration : goal.returns-in_err-configuration
returns-in_err-configuration c =
    let k = activation_of c.args.activation in
    let d = configuration_of c.args.configuration.now in
    passed _ _ c.from_residual.ensures.1 (first_stops (guarded true k c.args.turns.now.at (expr_of c.args.turns.now.guard) (assertions_of c.args.turns.now.invariants.items) d)
    (state_then k.program (guarded true k c.args.turns.now.at (expr_of c.args.turns.now.guard) (assertions_of c.args.turns.now.invariants.items) d)) c.in_err-configuration.ensures)

pub returns : goal.returns
returns c =
    let k = activation_of c.args.activation in
    let d = configuration_of c.args.configuration.now in
    both_go (guarded true k c.args.turns.now.at (expr_of c.args.turns.now.guard) (assertions_of c.args.turns.now.invariants.items) d)
    (state_then k.program (guarded true k c.args.turns.now.at (expr_of c.args.turns.now.guard) (assertions_of c.args.turns.now.invariants.items) d)) c.in_ok-configuration.ensures c.assume_guard.ensures
