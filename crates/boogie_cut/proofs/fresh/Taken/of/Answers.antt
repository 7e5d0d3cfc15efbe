use Rattle.boogie_cut.specs.View.{a_names}
use Rattle.boogie_cut.proofs.PlaceLaws.{noted_next, all_noted}
use Rattle.boogie_cut.proofs.fresh.Taken.of.Goals as goal

pub loop-local-preserved : goal.loop-local-preserved
loop-local-preserved c =
    noted_next c.args.locals.now c.loop-local.local-index c.local-item.result (a_names c.args.locals.now) c.loop-local.names.keys c.note.new.names.keys c.loop-local.many c.in_ok-new.new c.in_ok-many.many
    c.loop-local-test.true c.local-item.is c.in_ok-many.ensures c.loop-local.invariant c.in_ok-new.ensures

pub invariant_of-result : goal.invariant_of-result
invariant_of-result c = record { are_noted = all_noted c.args.locals.now c.loop-local.local-index c.loop-local.many c.loop-local.names.keys (a_names c.args.locals.now) c.loop-local-test.false c.loop-local.invariant }
