use Rattle.std.proofs.Common.{sym, ap}
use Rattle.vb_value.specs.Bound.{Bounded}
use Rattle.viper_core.specs.View.{assertion_of}
use Rattle.viper_state.specs.View.{state_of}
use Rattle.viper_meaning.specs.Assertions as m
use Rattle.viper_inhale.proofs.DoesLaws.{same_run}
use Rattle.viper_inhale.proofs.calls.produce.Goals as goal

pub returns : goal.returns
returns c = record { step = c.step.ensures _ _ _ _ (same_run (ap (λ sc. m.produce Bounded (assertion_of c.args.a.now) sc c.args.scale (state_of c.args.state.now)) (sym c.of-scene.ensures)) c.produce_in.ensures) }
