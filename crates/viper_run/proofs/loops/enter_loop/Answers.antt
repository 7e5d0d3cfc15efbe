use Rattle.std.proofs.Common.{refl, ap, ◌∙◌}
use Rattle.viper_core.specs.View.{assertions_of}
use Rattle.viper_state.specs.View.{state_of}
use Rattle.viper_meaning.specs.Statements.{stored}
use Rattle.viper_inhale.proofs.DoesLaws.{passed}
use Rattle.viper_run.specs.View.{activation_of, configuration_of}
use Rattle.viper_run.proofs.LoopStepLaws.{giving_stops, values_stop, entered}
use Rattle.viper_run.proofs.loops.enter_loop.Goals as goal

pub returns-in_err-exhale_all : goal.returns-in_err-exhale_all
returns-in_err-exhale_all c =
    let k = activation_of c.args.activation in
    passed _ _ c.from_residual.ensures.1 (giving_stops k (configuration_of c.args.configuration.now) c.scene-scene.ensures (assertions_of c.args.turns.now.invariants.items) (ap assertions_of c.deref.ensures.value) c.args.turns.now.targets.items refl
    (c.in_err-exhale_all.ensures k.program c.requires.ready.state.maps c.requires.ready.state.fit))

pub returns-in_err-values : goal.returns-in_err-values
returns-in_err-values c =
    let k = activation_of c.args.activation in
    passed _ _ c.from_residual-in_err-values.ensures.1 (values_stop k (configuration_of c.args.configuration.now) c.scene-scene.ensures (assertions_of c.args.turns.now.invariants.items) (ap assertions_of c.deref.ensures.value) c.args.turns.now.targets.items c.deref-2.ensures.value
    (state_of c.exhale_all.new.state) (c.in_ok-exhale_all.ensures k.program c.requires.ready.state.maps c.requires.ready.state.fit) c.in_err-values.ensures)

pub returns : goal.returns
returns c =
    let k = activation_of c.args.activation in
    entered k (configuration_of c.args.configuration.now) c.scene-scene.ensures (assertions_of c.args.turns.now.invariants.items) (ap assertions_of c.deref.ensures.value) c.args.turns.now.targets.items c.deref-2.ensures.value
    (state_of c.exhale_all.new.state) (c.in_ok-exhale_all.ensures k.program c.requires.ready.state.maps c.requires.ready.state.fit) _
    (c.set_all.ensures ∙ (λ i. stored c.args.configuration.now.store.values.items (c.deref-3.ensures.value i) (c.deref-4.ensures.value i))) c.in_ok-values.ensures
