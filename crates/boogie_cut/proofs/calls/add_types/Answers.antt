use Rattle.boogie_cut.specs.View.{types_of_all}
use Rattle.boogie_cut.proofs.WriteLaws.{types_next, types_last}
use Rattle.boogie_cut.proofs.calls.add_types.Goals as goal

pub loop-local-preserved : goal.loop-local-preserved
loop-local-preserved c =
    types_next c.args.locals.now c.loop-local.local-index c.local-item.result _ (types_of_all c.loop-local.types.items) (types_of_all c.add_type.new.types.items) c.loop-local-test.true c.local-item.is
    c.in_ok-add_type.ensures c.loop-local.invariant

pub returns : goal.returns
returns c = types_last c.args.locals.now c.loop-local.local-index _ (types_of_all c.loop-local.types.items) c.loop-local-test.false c.loop-local.invariant
