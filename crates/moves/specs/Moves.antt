-- The choices of Boogie that the events of a Viper run turn into, in order. For each event they are those that the code of its
-- step takes.
use Rattle.std.specs.Prelude.{ℕ, List, [], ◌∷◌, ◌++◌, map}
use Rattle.sparse.specs.Map.{Map}
use Rattle.vb_value.specs.Content.{Content}
use Rattle.vb_value.specs.declared.values.Value.{Value}
use Rattle.viper_state.specs.State.{Memo}
use Rattle.viper_state.specs.Event.{Event, Branch, Took, Wild, Fresh, Whole, Split, Leaf}
use Rattle.boogie_tree.specs.Value as b
use Rattle.boogie_tree.specs.Value.{Key, BChoice, Pick, Value as Given, Entries}
use Rattle.moves.specs.Scalars.{scalar}
use Rattle.moves.specs.Maps.{place_key, instance_key}

-- the values of a heap other than its default
abbrev pub heap_choice : Map ℕ Value → BChoice
heap_choice m = Entries (map (λ (e : ℕ × Value). record { key = place_key e.0; value = scalar e.1 }) m.entries)

-- the contents of instances other than the default
abbrev pub content_choice : Map Key Content → BChoice
content_choice m = Entries (map (λ (e : Key × Content). record { key = instance_key e.0; value = b.Snap e.1 }) m.entries)

-- the heap of each field, and then the contents of each predicate
abbrev pub memo_choices : Memo → List BChoice
memo_choices m = map heap_choice m.heap ++ map content_choice m.content

abbrev pub moves_of : Event → List BChoice
moves_of (Branch p) = Pick p ∷ []
moves_of (Took v) = Given (scalar v) ∷ []
moves_of (Wild q) = Given (b.Real q) ∷ []
moves_of (Fresh r) = Given (b.Ref r) ∷ []
moves_of (Whole m) = memo_choices m
moves_of (Split c d) = Given (b.Snap c) ∷ Given (b.Snap d) ∷ []
moves_of (Leaf v) = Given (scalar v) ∷ []

abbrev pub moves : List Event → List BChoice
moves [] = []
moves (e ∷ es) = moves_of e ++ moves es
