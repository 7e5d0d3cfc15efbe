use Rattle.std.proofs.Common.{arith, map, refl}
use Rattle.std.proofs.lemmas.List.Elements.{All-map}
use Rattle.lemmas.proofs.Lists.{named_more, all_named}
use Rattle.sparse.specs.Map.{borrowed}
use Rattle.moves.specs.Printable.{IsNamedEntry}
use Rattle.run_file_boogie.specs.BoogiePrinted.{entry_text, entries_text}
use Rattle.run_file_boogie.specs.MovedView.{place_entry}
use Rattle.run_file_boogie.proofs.MovedPrintLaws.{one_written, one_named}
use Rattle.run_file_words.proofs.NamedLists.{written_more}
use Rattle.run_file_boogie.proofs.moved_printer.put_places.Goals as goal

pub loop-place-preserved : goal.loop-place-preserved
loop-place-preserved c =
    let xs = c.args.places.now in
    let i = c.loop-place.place-index in
    let x = c.place-item.result in (
      written_more (λ ys. entries_text (map place_entry (borrowed ys))) (λ y. entry_text (place_entry y.now)) xs i x c.loop-place.out.items _ _ (λ y ys. refl)
          c.loop-place-test.true c.place-item.is c.loop-place.invariant.0
          (one_written _ _ (place_entry x.now) _ _ c.of_one.ensures c.scalar.ensures c.in_ok-put_place.ensures.text),
      named_more (λ e. IsNamedEntry (place_entry e)) (λ y. y.now) xs i x c.loop-place-test.true c.place-item.is c.loop-place.invariant.1
          (one_named _ _ (place_entry x.now) c.of_one.ensures c.scalar.ensures c.in_ok-put_place.ensures.named),
    )

pub returns-clause-named : goal.returns-clause-named
returns-clause-named c =
    All-map IsNamedEntry place_entry (borrowed c.args.places.now)
    (all_named (λ e. IsNamedEntry (place_entry e)) (λ y. y.now) c.args.places.now c.loop-place.place-index (omega (arith, c.loop-place-test.false)) c.loop-place.invariant.1)
