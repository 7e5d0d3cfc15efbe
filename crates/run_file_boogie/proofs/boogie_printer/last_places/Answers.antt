use Rattle.run_file_boogie.proofs.BoogiePrintLaws.{none_found, placed_more}
use Rattle.run_file_boogie.proofs.boogie_printer.last_places.Goals as goal

pub loop-i-init : goal.loop-i-init
loop-i-init c = none_found c.args.settings.now c.args.count c.in_ok-places.places.items c.in_ok-places.ensures

pub loop-i-preserved : goal.loop-i-preserved
loop-i-preserved c =
    placed_more c.args.settings.now c.args.count c.loop-i.i c.index-settings-i.result c.loop-i.places.items _ c.loop-i-test.true c.index-settings-i.is c.loop-i.invariant c.set_place.ensures
