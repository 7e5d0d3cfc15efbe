use Rattle.boogie_wp.specs.View.{builder_of}
use Rattle.boogie_wp.proofs.ChangeLaws.{merge_done, steps_end}
use Rattle.boogie_wp.proofs.builder.ConditionsBuilder.merge.Goals as goal

pub returns-clause-goes : goal.returns-clause-goes
returns-clause-goes c = λ vs ws first second chosen.
    merge_done c.args.n c.args.condition vs ws (builder_of c.args.self.now) (builder_of c.loop-choice.self) c.args.choices.now
    (steps_end c.args.n c.args.condition c.args.choices.now c.loop-choice.choice-index (builder_of c.args.self.now) (builder_of c.loop-choice.self) c.loop-choice-test.false c.loop-choice.invariant.0) chosen first second
