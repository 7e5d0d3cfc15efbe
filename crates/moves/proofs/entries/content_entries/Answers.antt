use Rattle.std.proofs.Common.{◌∙◌, ap, map}
use Rattle.boogie_tree.specs.Value as b
use Rattle.boogie_tree.specs.Whole.{entry_of}
use Rattle.moves.proofs.ListLaws.{content_entry}
use Rattle.moves.proofs.entries.content_entries.Goals as goal

pub loop-i-preserved : goal.loop-i-preserved
loop-i-preserved c =
    ap (map entry_of) c.in_ok-push.ensures.items ∙
    content_entry c.args.contents.now c.loop-i.i c.key_at-arguments.result.now c.get.result.now c.loop-i.entries.items _ c.get.ensures.reduced c.key_at-arguments.ensures.key c.get.ensures.value c.loop-i.invariant
    (λ j. record { key = c.in_ok-instance_key.ensures j; value = b.Snap (c.in_ok-clone.ensures.cases j) })
