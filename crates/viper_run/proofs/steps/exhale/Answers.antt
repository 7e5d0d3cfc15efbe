use Rattle.std.proofs.Common.{sym, subst}
use Rattle.vb_value.specs.Bound.{Bounded}
use Rattle.viper_state.specs.Within.{IsWithinState, IsWithinScene}
use Rattle.viper_meaning.proofs.RunWithinLaws.{consume_within}
use Rattle.viper_meaning.proofs.ShapeLaws.{consume_shape}
use Rattle.viper_eval.specs.View.{lent}
use Rattle.viper_run.proofs.ReadyLaws.{stays, scene_within}
use Rattle.viper_core.specs.View.{assertion_of}
use Rattle.viper_state.specs.View.{state_of}
use Rattle.viper_inhale.specs.Answers.{no_memory}
use Rattle.viper_inhale.proofs.DoesLaws.{passed}
use Rattle.viper_run.specs.View.{activation_of, configuration_of}
use Rattle.viper_run.proofs.StepLaws.{exhale_stops, exhaled}
use Rattle.viper_run.proofs.steps.exhale.Goals as goal

pub returns-in_err-start : goal.returns-in_err-start
returns-in_err-start c = passed _ _ c.from_residual.ensures.1 no_memory

pub returns-in_err-consume_in : goal.returns-in_err-consume_in
returns-in_err-consume_in c =
    passed _ _ c.from_residual-in_err-consume_in.ensures.1 (exhale_stops (activation_of c.args.activation) (configuration_of c.args.configuration.now) c.scene-scene.ensures (assertion_of c.args.a.now) c.in_ok-start.ensures c.write.ensures c.in_err-consume_in.ensures)

pub returns : goal.returns
returns c =
    let k = activation_of c.args.activation in
    let a = assertion_of c.args.a.now in
    let sc = lent c.scene-scene.result in
    let r = c.requires.ready in
    let after = stays (consume_within a (state_of c.in_ok-start.start) sc c.write.result (state_of c.args.configuration.now.state) c.requires.a_within (subst IsWithinState (sym c.in_ok-start.ensures) r.state.within) r.state.within
    (subst IsWithinScene (sym c.scene-scene.ensures) (scene_within c.args.at r))) (consume_shape k.program.layout Bounded a (state_of c.in_ok-start.start) sc c.write.result (state_of c.args.configuration.now.state) r.state.maps) r.state
    c.in_ok-consume_in.ensures in
    exhaled k (configuration_of c.args.configuration.now) c.scene-scene.ensures a (state_of c.forget_in.new.state) c.in_ok-start.ensures c.write.ensures c.in_ok-consume_in.ensures
    (c.forget_in.ensures k.program.layout after.maps after.fit)
