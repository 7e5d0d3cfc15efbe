use Rattle.std.proofs.Common.{arith, map, refl}
use Rattle.lemmas.proofs.Lists.{named_more, all_named}
use Rattle.moves.specs.Moves.{heap_choice}
use Rattle.moves.specs.Printable.{IsNamedMove}
use Rattle.run_file_boogie.specs.BoogiePrinted.{choice_text, choices_text}
use Rattle.run_file_words.proofs.NamedLists.{written_more}
use Rattle.run_file_boogie.proofs.moved_printer.put_heaps.Goals as goal

pub loop-heap-preserved : goal.loop-heap-preserved
loop-heap-preserved c =
    let xs = c.args.heaps.now in
    let i = c.loop-heap.heap-index in
    let x = c.heap-item.result in (
      written_more (λ ys. choices_text (map heap_choice ys)) (λ y. choice_text (heap_choice y)) xs i x c.loop-heap.out.items _ _ (λ y ys. refl) c.loop-heap-test.true c.heap-item.is c.loop-heap.invariant.0 c.in_ok-put_heap.ensures.text,
      named_more IsNamedMove heap_choice xs i x c.loop-heap-test.true c.heap-item.is c.loop-heap.invariant.1 c.in_ok-put_heap.ensures.named,
    )

pub returns-clause-named : goal.returns-clause-named
returns-clause-named c = all_named IsNamedMove heap_choice c.args.heaps.now c.loop-heap.heap-index (omega (arith, c.loop-heap-test.false)) c.loop-heap.invariant.1
