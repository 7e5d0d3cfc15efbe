use Rattle.std.proofs.Common.{arith, map, refl}
use Rattle.lemmas.proofs.Lists.{named_more, all_named}
use Rattle.boogie_tree.specs.Whole.{entry_of}
use Rattle.moves.specs.Printable.{IsNamedEntry}
use Rattle.run_file_boogie.specs.BoogiePrinted.{entry_text, entries_text}
use Rattle.run_file_words.proofs.NamedLists.{written_more}
use Rattle.run_file_boogie.proofs.boogie_printer.put_entries.Goals as goal

pub loop-entry-preserved : goal.loop-entry-preserved
loop-entry-preserved c =
    let xs = c.args.entries.now in
    let i = c.loop-entry.entry-index in
    let x = c.entry-item.result in (
      written_more (λ ys. entries_text (map entry_of ys)) (λ y. entry_text (entry_of y)) xs i x c.loop-entry.out.items _ _ (λ y ys. refl) c.loop-entry-test.true c.entry-item.is c.loop-entry.invariant.0 c.in_ok-put_place.ensures.text,
      named_more IsNamedEntry entry_of xs i x c.loop-entry-test.true c.entry-item.is c.loop-entry.invariant.1 c.in_ok-put_place.ensures.named,
    )

pub returns-clause-named : goal.returns-clause-named
returns-clause-named c = all_named IsNamedEntry entry_of c.args.entries.now c.loop-entry.entry-index (omega (arith, c.loop-entry-test.false)) c.loop-entry.invariant.1
