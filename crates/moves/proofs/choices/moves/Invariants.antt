use Rattle.std.proofs.Common.{◌≡◌, ◌++◌, drop, map}
use Rattle.viper_state.specs.View.{event_of}
use Rattle.boogie_tree.specs.Whole.{choice_of}
use Rattle.moves.specs.Moves.{moves}
use Rattle.moves.proofs.choices.moves.Given as goal

abbrev pub invariant-loop-event : goal.invariant-loop-event
invariant-loop-event l = map choice_of l.choices.items ++ moves (map event_of (drop l.event-index l.events.items)) ≡ moves (map event_of l.events.items)
