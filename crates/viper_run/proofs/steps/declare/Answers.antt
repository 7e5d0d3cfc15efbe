use Rattle.std.proofs.Common.{ap}
use Rattle.viper_state.specs.View.{state_of}
use Rattle.viper_meaning.specs.Run as run
use Rattle.viper_meaning.specs.Statements.{with_variable}
use Rattle.viper_inhale.proofs.DoesLaws.{passed, goes_at_once}
use Rattle.viper_inhale.proofs.FormLaws.{first_stops, both_go}
use Rattle.viper_run.specs.View.{configuration_of}
use Rattle.viper_run.proofs.ChoiceLaws.{value_then}
use Rattle.viper_run.proofs.steps.declare.Goals as goal

pub returns-in_err-value : goal.returns-in_err-value
returns-in_err-value c at =
    passed _ _ c.from_residual.ensures.1 (first_stops _ (value_then c.args.activation.vars.now c.args.variable (λ v. run.goes (with_variable (configuration_of c.args.configuration.now) c.args.variable v))) c.in_err-value.ensures)

pub returns : goal.returns
returns c at =
    both_go _ (value_then c.args.activation.vars.now c.args.variable (λ v. run.goes (with_variable (configuration_of c.args.configuration.now) c.args.variable v))) c.in_ok-value.ensures
    (goes_at_once _ _ (ap (λ st. record { store = st; state = state_of c.args.configuration.now.state }) c.set.ensures))
