use Rattle.boogie_wp.specs.View.{chain_of}
use Rattle.boogie_wp.proofs.CodeLaws.{linked_next, linked_last}
use Rattle.boogie_wp.proofs.chain.Chain.link_all.Goals as goal

pub loop-fail-preserved : goal.loop-fail-preserved
loop-fail-preserved c =
    linked_next c.args.n c.args.label.now c.args.fails.now c.loop-fail.fail-index c.fail-item.result _ (chain_of c.loop-fail.self) (chain_of c.link.new.self) c.loop-fail-test.true c.fail-item.is
    c.in_ok-link.ensures c.loop-fail.invariant

pub returns : goal.returns
returns c = linked_last c.args.n c.args.label.now c.args.fails.now c.loop-fail.fail-index _ (chain_of c.loop-fail.self) c.loop-fail-test.false c.loop-fail.invariant
