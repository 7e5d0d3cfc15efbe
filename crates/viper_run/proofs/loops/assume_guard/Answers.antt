use Rattle.std.proofs.Common.{◌≡◌, ◌∙◌, All, ap, sym, subst, not, if◌then◌else◌}
use Rattle.vb_value.specs.Bound.{Bounded}
use Rattle.viper_core.specs.Literals.{IsWithinAssertion}
use Rattle.viper_core.specs.View.{assertions_of, expr_of}
use Rattle.viper_state.specs.View.{state_of}
use Rattle.viper_state.specs.Within.{IsWithinScene}
use Rattle.viper_meaning.proofs.ShapeLaws.{produce_all_shape}
use Rattle.viper_meaning.proofs.StatementKeptLaws.{produce_all_within}
use Rattle.viper_eval.specs.Steps.{assumed}
use Rattle.viper_eval.specs.View.{lent}
use Rattle.viper_inhale.proofs.DoesLaws.{passed}
use Rattle.viper_run.specs.View.{activation_of, configuration_of}
use Rattle.viper_run.proofs.LoopStepLaws.{guarded_stops, guard_stops, guard_blocks, guard_goes}
use Rattle.viper_run.proofs.ReadyLaws.{scene_within, stays}
use Rattle.viper_run.proofs.loops.assume_guard.Goals as goal
use Rattle.viper_run.proofs.loops.assume_guard.Goals.{then-wanted, else-wanted}

pub truth_of-requires-clause-now_within : goal.truth_of-requires-clause-now_within
truth_of-requires-clause-now_within c =
    let k = activation_of c.args.activation in
    let r = c.requires.ready in
    let sc = lent c.scene-scene.result in
    let invariants = assertions_of c.deref.result.now in
    (stays (produce_all_within invariants sc (state_of c.args.configuration.now.state) (subst (λ xs. All IsWithinAssertion (assertions_of xs)) (sym c.deref.ensures.value) c.requires.invariants_within) r.state.within
    (subst IsWithinScene (sym c.scene-scene.ensures) (scene_within c.args.turns.now.at r)))
    (produce_all_shape Bounded k.program invariants sc (state_of c.args.configuration.now.state) r.state.maps) r.state c.in_ok-produce_all.ensures).within

pub returns-in_err-produce_all : goal.returns-in_err-produce_all
returns-in_err-produce_all c =
    passed _ _ c.from_residual.ensures.1 (guarded_stops (activation_of c.args.activation) (configuration_of c.args.configuration.now) c.scene-scene.ensures (assertions_of c.args.turns.now.invariants.items) (ap assertions_of c.deref.ensures.value) c.args.wanted (expr_of c.args.turns.now.guard)
    c.in_err-produce_all.ensures)

pub returns-in_err-holds : goal.returns-in_err-holds
returns-in_err-holds c =
    passed _ _ c.from_residual-in_err-holds.ensures.1 (guard_stops (activation_of c.args.activation) (configuration_of c.args.configuration.now) c.scene-scene.ensures (assertions_of c.args.turns.now.invariants.items) (ap assertions_of c.deref.ensures.value) c.args.wanted (expr_of c.args.turns.now.guard)
    (state_of c.produce_all.new.state) c.in_ok-produce_all.ensures c.in_err-holds.ensures.answers c.in_err-holds.ensures.left)

pub returns-in_err-assumed : goal.returns-in_err-assumed
returns-in_err-assumed c =
    let holds = c.in_ok-holds.holds in
    let same : c.if-wanted.assumed ≡ (if c.args.wanted then holds else not holds) = elim c.if-wanted.branch [
      | then-wanted w ↦ w.assumed-is ∙ ap (λ b. if b then holds else not holds) (sym w.if-wanted.true)
      | else-wanted w ↦ w.assumed-is ∙ ap (λ b. if b then holds else not holds) (sym w.if-wanted.false)
    ] in
    passed _ _ c.from_residual-in_err-assumed.ensures.1 (guard_blocks (activation_of c.args.activation) (configuration_of c.args.configuration.now) c.scene-scene.ensures (assertions_of c.args.turns.now.invariants.items) (ap assertions_of c.deref.ensures.value) c.args.wanted (expr_of c.args.turns.now.guard)
    (state_of c.produce_all.new.state) c.in_ok-produce_all.ensures _ c.in_ok-holds.ensures.answers c.in_ok-holds.ensures.left (c.in_err-assumed.ensures ∙ ap assumed same))

pub returns : goal.returns
returns c =
    let holds = c.in_ok-holds.holds in
    let same : c.if-wanted.assumed ≡ (if c.args.wanted then holds else not holds) = elim c.if-wanted.branch [
      | then-wanted w ↦ w.assumed-is ∙ ap (λ b. if b then holds else not holds) (sym w.if-wanted.true)
      | else-wanted w ↦ w.assumed-is ∙ ap (λ b. if b then holds else not holds) (sym w.if-wanted.false)
    ] in
    guard_goes (activation_of c.args.activation) (configuration_of c.args.configuration.now) c.scene-scene.ensures (assertions_of c.args.turns.now.invariants.items) (ap assertions_of c.deref.ensures.value) c.args.wanted (expr_of c.args.turns.now.guard)
    (state_of c.produce_all.new.state) c.in_ok-produce_all.ensures c.in_ok-holds.ensures.answers c.in_ok-holds.ensures.left (c.in_ok-assumed.ensures ∙ ap assumed same)
