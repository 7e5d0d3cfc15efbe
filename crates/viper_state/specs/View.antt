-- The plain data that contracts see of the types of the program.
use Rattle.std.specs.Prelude.{map, drop}
use Rattle.sparse.specs.Map.{Map}
use Rattle.sparse.specs.Meaning.{meaning_of}
use Rattle.vb_value.specs.Content as tree
use Rattle.vb_value.specs.View.{content_of}
use Rattle.vb_value.specs.declared.contents.Content.{Content}
use Rattle.viper_state.specs.State as s
use Rattle.viper_state.specs.Choice as c
use Rattle.viper_state.specs.Event as e
use Rattle.viper_state.specs.Run as r
use Rattle.viper_state.specs.declared.states.Memo.{Memo}
use Rattle.viper_state.specs.declared.states.State.{State}
use Rattle.viper_state.specs.declared.runs.Opening.{Opening}
use Rattle.viper_state.specs.declared.runs.Scene.{Scene}
use Rattle.viper_state.specs.declared.runs.Feed.{Feed}
use Rattle.viper_state.specs.declared.runs.Choice.{Choice}
use Rattle.viper_state.specs.declared.runs.Choice.TheVariants as choice
use Rattle.viper_state.specs.declared.runs.Event.{Event}
use Rattle.viper_state.specs.declared.runs.Event.TheVariants as event

abbrev pub contents_of : Map s.Key Content → Map s.Key tree.Content
contents_of = meaning_of (λ k. k) content_of

abbrev pub memo_of : Memo → s.Memo
memo_of m = record { heap = m.heap.items; content = map contents_of m.content.items }

abbrev pub state_of : State → s.State
state_of x = record { heap = x.heap.items; content = map contents_of x.content.items; mask = x.mask.items; amount = x.amount.items }

abbrev pub opening_of : Opening → r.Opening
opening_of x = record { store = x.store.items; memo = memo_of x.memo }

abbrev pub choice_of : Choice → c.Choice
choice_of (choice.Branch b) = c.Branch b
choice_of (choice.Took v) = c.Took v
choice_of (choice.Amount q) = c.Amount q
choice_of (choice.Fresh x) = c.Fresh x
choice_of (choice.Memo m) = c.Filled (memo_of m)

abbrev pub event_of : Event → e.Event
event_of (event.Branch b) = e.Branch b
event_of (event.Took v) = e.Took v
event_of (event.Wild q) = e.Wild q
event_of (event.Fresh x) = e.Fresh x
event_of (event.Whole m) = e.Whole (memo_of m)
event_of (event.Split a b) = e.Split (content_of a) (content_of b)
event_of (event.Leaf v) = e.Leaf v

abbrev pub feed_of : Feed → r.Feed
feed_of x = record { left = map choice_of (drop x.next x.choices.items); events = map event_of x.events.items }

abbrev pub scene_of : Scene → r.Scene
scene_of x = record { store = x.store.items; old = state_of x.old; at = x.at }
