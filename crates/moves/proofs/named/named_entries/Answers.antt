use Rattle.std.proofs.Common.{arith}
use Rattle.lemmas.proofs.Lists.{named_more, all_named}
use Rattle.boogie_tree.specs.Whole.{entry_of}
use Rattle.moves.specs.Printable.{IsNamedEntry}
use Rattle.moves.proofs.named.named_entries.Goals as goal

pub loop-entry-preserved : goal.loop-entry-preserved
loop-entry-preserved c =
    named_more IsNamedEntry entry_of c.args.entries.now c.loop-entry.entry-index c.entry-item.result c.loop-entry-test.true c.entry-item.is c.loop-entry.invariant c.named_entry.ensures

pub returns : goal.returns
returns c = all_named IsNamedEntry entry_of c.args.entries.now c.loop-entry.entry-index (omega (arith, c.loop-entry-test.false)) c.loop-entry.invariant
