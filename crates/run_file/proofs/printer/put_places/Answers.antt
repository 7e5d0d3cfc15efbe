use Rattle.run_file.proofs.PrintLaws.{places_more}
use Rattle.run_file.proofs.printer.put_places.Goals as goal

pub loop-i-preserved : goal.loop-i-preserved
loop-i-preserved c =
    places_more c.args.name.now c.args.heap.now c.loop-i.i c.key_at.result.now c.get.result.now _ _ _ c.loop-i.invariant c.key_at.ensures.key c.get.ensures.value c.in_ok-put_place.ensures
