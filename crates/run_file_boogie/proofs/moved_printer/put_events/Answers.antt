use Rattle.std.proofs.Common.{All, arith, map}
use Rattle.lemmas.proofs.Lists.{named_more, all_named}
use Rattle.viper_state.specs.View.{event_of}
use Rattle.moves.specs.Moves.{moves, moves_of}
use Rattle.moves.specs.Printable.{IsNamedMove}
use Rattle.run_file_boogie.specs.BoogiePrinted.{choices_text}
use Rattle.run_file_boogie.proofs.MovedPrintLaws.{choices_append, moves_named}
use Rattle.run_file_words.proofs.NamedLists.{written_more}
use Rattle.run_file_boogie.proofs.moved_printer.put_events.Goals as goal

pub loop-event-preserved : goal.loop-event-preserved
loop-event-preserved c =
    let xs = c.args.events.now in
    let i = c.loop-event.event-index in
    let x = c.event-item.result in (
      written_more (λ ys. choices_text (moves (map event_of ys))) (λ y. choices_text (moves_of (event_of y))) xs i x c.loop-event.out.items _ _ (λ y ys. choices_append (moves_of (event_of y)) (moves (map event_of ys)))
          c.loop-event-test.true c.event-item.is c.loop-event.invariant.0 c.in_ok-put_event.ensures.text,
      named_more (λ e. All IsNamedMove (moves_of e)) event_of xs i x c.loop-event-test.true c.event-item.is c.loop-event.invariant.1 c.in_ok-put_event.ensures.named,
    )

pub returns-clause-named : goal.returns-clause-named
returns-clause-named c =
    moves_named (map event_of c.args.events.now)
    (all_named (λ e. All IsNamedMove (moves_of e)) event_of c.args.events.now c.loop-event.event-index (omega (arith, c.loop-event-test.false)) c.loop-event.invariant.1)
