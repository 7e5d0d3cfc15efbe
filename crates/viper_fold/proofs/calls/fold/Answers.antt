use Rattle.std.proofs.Common.{sym, ap}
use Rattle.vb_value.specs.Bound.{Bounded}
use Rattle.viper_core.specs.View.{fold_of, program_of}
use Rattle.viper_state.specs.View.{state_of}
use Rattle.viper_meaning.specs.Contents.{fold_instance}
use Rattle.viper_inhale.proofs.DoesLaws.{same_run}
use Rattle.viper_fold.proofs.calls.fold.Goals as goal

pub returns : goal.returns
returns c = record { step = c.step.ensures _ _ _ _ (same_run (ap (λ sc. fold_instance Bounded (program_of c.args.program.now) (fold_of c.args.s.now) (state_of c.args.state.now) sc) (sym c.of-scene.ensures)) c.fold_in.ensures) }
