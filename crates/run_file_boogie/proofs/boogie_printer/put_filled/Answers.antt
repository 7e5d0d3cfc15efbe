use Rattle.run_file_boogie.proofs.BoogiePrintLaws.{filled_more}
use Rattle.run_file_boogie.proofs.boogie_printer.put_filled.Goals as goal

pub loop-i-preserved : goal.loop-i-preserved
loop-i-preserved c =
    filled_more c.args.filled.now c.loop-i.i c.key_at-key.result.now c.get.result.now _ _ _ c.get.ensures.reduced c.loop-i.invariant c.key_at-key.ensures.key c.get.ensures.value c.in_ok-put_place.ensures.text
