use Rattle.std.proofs.Common.{ap, ◌∙◌}
use Rattle.viper_core.specs.View.{assertions_of, method_of}
use Rattle.viper_state.specs.Run.{with_variables}
use Rattle.viper_state.specs.View.{state_of}
use Rattle.viper_inhale.proofs.DoesLaws.{passed}
use Rattle.viper_exec.proofs.CallLaws.{begin_stops, begin_goes}
use Rattle.viper_exec.proofs.calls.begin_call.Goals as goal

pub returns-in_err-assert_all : goal.returns-in_err-assert_all
returns-in_err-assert_all c =
    passed _ _ c.from_residual.ensures.1 (begin_stops (method_of c.args.method.now) c.args.args.items (state_of c.args.configuration.now.state)
    (c.with_variables-scene.ensures ∙ (λ i. with_variables (c.deref.ensures.value i) (c.scene.ensures i))) (ap assertions_of c.deref-2.ensures.value) c.in_err-assert_all.ensures)

pub returns : goal.returns
returns c =
    begin_goes (method_of c.args.method.now) c.args.args.items (state_of c.args.configuration.now.state)
    (c.with_variables-scene.ensures ∙ (λ i. with_variables (c.deref.ensures.value i) (c.scene.ensures i))) (ap assertions_of c.deref-2.ensures.value) c.in_ok-assert_all.ensures c.take_returns.ensures
