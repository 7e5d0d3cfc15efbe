use Rattle.std.proofs.Common.{arith}
use Rattle.lemmas.proofs.Lists.{named_more, all_named}
use Rattle.viper_state.specs.View.{choice_of}
use Rattle.run_file.specs.Printable.{NamesChoice}
use Rattle.run_file.proofs.named.named_choices.Goals as goal

pub loop-choice-preserved : goal.loop-choice-preserved
loop-choice-preserved c =
    named_more NamesChoice choice_of c.args.choices.now c.loop-choice.choice-index c.choice-item.result c.loop-choice-test.true c.choice-item.is c.loop-choice.invariant c.named_choice.ensures

pub returns : goal.returns
returns c = all_named NamesChoice choice_of c.args.choices.now c.loop-choice.choice-index (omega (arith, c.loop-choice-test.false)) c.loop-choice.invariant
