use Rattle.std.proofs.Common.{sym}
use Rattle.vb_value.specs.Bound.{Bounded}
use Rattle.viper_core.specs.View.{assertions_of}
use Rattle.viper_meaning.specs.Statements as m
use Rattle.viper_inhale.specs.Answers.{no_memory}
use Rattle.viper_inhale.proofs.DoesLaws.{passed, same_run}
use Rattle.viper_run.specs.View.{configuration_of}
use Rattle.viper_run.proofs.units.end_body.Goals as goal

pub returns-in_err-start : goal.returns-in_err-start
returns-in_err-start c = passed _ _ c.from_residual.ensures.1 no_memory

pub returns : goal.returns
returns c =
    same_run (λ i. m.consume_all Bounded (assertions_of (sym c.deref.ensures.value i)) (sym c.in_ok-start.ensures i) (sym c.scene-scene.ensures i) (configuration_of c.args.configuration.now).state) c.consume_all.ensures
