use Rattle.std.proofs.Common.{arith}
use Rattle.lemmas.proofs.Lists.{named_more, all_named}
use Rattle.boogie_tree.specs.Whole.{choice_of}
use Rattle.moves.specs.Printable.{IsNamedMove}
use Rattle.moves.proofs.named.named_moves.Goals as goal

pub loop-choice-preserved : goal.loop-choice-preserved
loop-choice-preserved c =
    named_more IsNamedMove choice_of c.args.choices.now c.loop-choice.choice-index c.choice-item.result c.loop-choice-test.true c.choice-item.is c.loop-choice.invariant c.named_move.ensures

pub returns : goal.returns
returns c = all_named IsNamedMove choice_of c.args.choices.now c.loop-choice.choice-index (omega (arith, c.loop-choice-test.false)) c.loop-choice.invariant
