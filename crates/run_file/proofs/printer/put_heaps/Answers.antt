use Rattle.lemmas.proofs.Options.{looked_at}
use Rattle.run_file.specs.Printed.{heap_text}
use Rattle.run_file_words.proofs.PrintLaws.{numbered_more}
use Rattle.run_file.proofs.printer.put_heaps.Goals as goal

pub loop-i-preserved : goal.loop-i-preserved
loop-i-preserved c =
    numbered_more heap_text c.args.fields.now c.loop-i.i c.args.heaps.now c.index-heaps-i.result _ _ _ _ c.loop-i.invariant c.loop-i-test.true c.index-heaps-i.is
    (looked_at c.get.result c.args.fields.now c.loop-i.i c.get.ensures.lookup.0 c.get.ensures.lookup.1) c.in_ok-put_heap.ensures
