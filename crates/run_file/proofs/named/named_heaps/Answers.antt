use Rattle.std.proofs.Common.{arith}
use Rattle.lemmas.proofs.Lists.{all_taken}
use Rattle.moves.specs.Printable.{IsNamed, IsNamedValue}
use Rattle.run_file_words.specs.Named.{AreNamed}
use Rattle.run_file_words.proofs.NamedMaps.{take_named}
use Rattle.run_file.proofs.named.named_heaps.Goals as goal

pub loop-heap-preserved : goal.loop-heap-preserved
loop-heap-preserved c =
    take_named (AreNamed IsNamed IsNamedValue) c.args.heaps.now c.loop-heap.heap-index c.heap-item.result c.loop-heap-test.true c.heap-item.is c.loop-heap.invariant c.named_heap.ensures

pub returns : goal.returns
returns c = all_taken (AreNamed IsNamed IsNamedValue) c.args.heaps.now c.loop-heap.heap-index (omega (arith, c.loop-heap-test.false)) c.loop-heap.invariant
