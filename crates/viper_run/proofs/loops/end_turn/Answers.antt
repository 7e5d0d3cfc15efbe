use Rattle.std.proofs.Common.{ap}
use Rattle.viper_core.specs.View.{assertions_of}
use Rattle.viper_inhale.specs.Answers.{no_memory}
use Rattle.viper_inhale.proofs.DoesLaws.{passed}
use Rattle.viper_run.specs.View.{activation_of, configuration_of}
use Rattle.viper_run.proofs.LoopLaws.{ending_stops, ending_blocks}
use Rattle.viper_run.proofs.loops.end_turn.Goals as goal

pub returns-in_err-left : goal.returns-in_err-left
returns-in_err-left c = passed _ _ c.from_residual.ensures.1 no_memory

pub returns-in_err-consume_all : goal.returns-in_err-consume_all
returns-in_err-consume_all c =
    passed _ _ c.from_residual-in_err-consume_all.ensures.1 (ending_stops (activation_of c.args.activation) (configuration_of c.args.configuration.now) c.scene-scene.ensures (assertions_of c.args.turns.now.invariants.items) (ap assertions_of c.deref.ensures.value)
    c.in_ok-left.ensures c.in_err-consume_all.ensures)

pub returns : goal.returns
returns c =
    ending_blocks (activation_of c.args.activation) (configuration_of c.args.configuration.now) c.scene-scene.ensures (assertions_of c.args.turns.now.invariants.items) (ap assertions_of c.deref.ensures.value) c.in_ok-left.ensures c.in_ok-consume_all.ensures
