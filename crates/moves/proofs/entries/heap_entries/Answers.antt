use Rattle.std.proofs.Common.{◌∙◌, ap, map}
use Rattle.boogie_tree.specs.Whole.{entry_of}
use Rattle.moves.proofs.ListLaws.{heap_entry}
use Rattle.moves.proofs.entries.heap_entries.Goals as goal

pub loop-i-preserved : goal.loop-i-preserved
loop-i-preserved c =
    ap (map entry_of) c.in_ok-push.ensures.items ∙
    heap_entry c.args.heap.now c.loop-i.i c.key_at.result.now c.get.result.now c.loop-i.entries.items _ c.get.ensures.reduced c.key_at.ensures.key c.get.ensures.value c.loop-i.invariant
    ((λ j. record { key = c.place_key.ensures j; value = c.scalar.ensures j }))
