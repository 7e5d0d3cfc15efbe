use Rattle.std.proofs.Common.{arith, map, refl}
use Rattle.std.proofs.lemmas.List.Elements.{All-map}
use Rattle.lemmas.proofs.Lists.{named_more, all_named}
use Rattle.viper_state.specs.View.{contents_of}
use Rattle.moves.specs.Moves.{content_choice}
use Rattle.moves.specs.Printable.{IsNamedMove}
use Rattle.run_file_boogie.specs.BoogiePrinted.{choice_text, choices_text}
use Rattle.run_file_words.proofs.NamedLists.{written_more}
use Rattle.run_file_boogie.proofs.moved_printer.put_contents.Goals as goal

pub loop-map-preserved : goal.loop-map-preserved
loop-map-preserved c =
    let xs = c.args.contents.now in
    let i = c.loop-map.map-index in
    let x = c.map-item.result in (
      written_more (λ ys. choices_text (map content_choice (map contents_of ys))) (λ y. choice_text (content_choice (contents_of y))) xs i x c.loop-map.out.items _ _ (λ y ys. refl)
          c.loop-map-test.true c.map-item.is c.loop-map.invariant.0 c.in_ok-put_predicate.ensures.text,
      named_more (λ m. IsNamedMove (content_choice m)) contents_of xs i x c.loop-map-test.true c.map-item.is c.loop-map.invariant.1 c.in_ok-put_predicate.ensures.named,
    )

pub returns-clause-named : goal.returns-clause-named
returns-clause-named c =
    All-map IsNamedMove content_choice (map contents_of c.args.contents.now)
    (all_named (λ m. IsNamedMove (content_choice m)) contents_of c.args.contents.now c.loop-map.map-index (omega (arith, c.loop-map-test.false)) c.loop-map.invariant.1)
