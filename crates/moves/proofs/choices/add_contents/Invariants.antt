use Rattle.std.proofs.Common.{◌≡◌, ◌++◌, drop, map}
use Rattle.viper_state.specs.View.{contents_of}
use Rattle.boogie_tree.specs.Whole.{choice_of}
use Rattle.moves.specs.Moves.{content_choice}
use Rattle.moves.proofs.choices.add_contents.Given as goal

abbrev pub invariant-loop-map : goal.invariant-loop-map
invariant-loop-map l =
    map choice_of l.choices.items ++ map content_choice (map contents_of (drop l.map-index l.contents)) ≡ map choice_of l.initial.choices.items ++ map content_choice (map contents_of l.contents)
