use Rattle.std.proofs.Common.{◌≡◌, ◌++◌, All, drop, map, take}
use Rattle.viper_state.specs.View.{event_of}
use Rattle.moves.specs.Moves.{moves, moves_of}
use Rattle.moves.specs.Printable.{IsNamedMove}
use Rattle.run_file_boogie.specs.BoogiePrinted.{choices_text}
use Rattle.run_file_boogie.proofs.moved_printer.put_events.Given as goal

abbrev pub invariant-loop-event : goal.invariant-loop-event
invariant-loop-event l =
    (l.out.items ++ choices_text (moves (map event_of (drop l.event-index l.events))) ≡ l.initial.out.items ++ choices_text (moves (map event_of l.events))) ×
    All (λ e. All IsNamedMove (moves_of e)) (map event_of (take l.event-index l.events))
