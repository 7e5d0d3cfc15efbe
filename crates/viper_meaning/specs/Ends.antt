-- How evaluating ends, and the ways to continue. The events are those that are recorded on the way, in order.
use Rattle.std.specs.Prelude.{⊤, Bool, true, false, Option, Some, None, List, [], ◌∷◌, ◌++◌}
use Rattle.vb_base.specs.declared.labels.Label.{Label}
use Rattle.vb_base.specs.declared.labels.Kind.{Kind}
use Rattle.vb_base.specs.declared.places.Pos.{Pos}
use Rattle.vb_value.specs.Bound.{Bound, Unbounded, Bounded}
use Rattle.viper_state.specs.Event.{Event}
use Rattle.viper_state.specs.Run.{Scene}

pub data End (X : Type 0) : Type 0 where
  Is : X → End X
  Fails : Label → End X
  Blocked : End X
  Over : Pos → End X

-- the events, and the end
pub data Evaluated (X : Type 0) : Type 0 where
  ends : List Event → End X → Evaluated X

abbrev pub events_of : {X : Type 0} → Evaluated X → List Event
events_of (ends events end) = events

-- the end without what is recorded on the way
abbrev pub the_end : {X : Type 0} → Evaluated X → End X
the_end (ends events end) = end

abbrev pub is : {X : Type 0} → X → Evaluated X
is x = ends [] (Is x)

-- a failure of this kind, in the step that is running, for the part at this place
abbrev pub fails : {X : Type 0} → Scene → Pos → Kind → Evaluated X
fails sc part kind = ends [] (Fails (record { at = sc.at; part = part; kind = kind }))

-- an assumption does not hold
abbrev pub blocks : {X : Type 0} → Evaluated X
blocks = ends [] Blocked

-- these events come first
abbrev pub after : {X : Type 0} → List Event → Evaluated X → Evaluated X
after before (ends events end) = ends (before ++ events) end

-- continues with the value, or ends
abbrev pub then_with : {X Y : Type 0} → Evaluated X → (X → Evaluated Y) → Evaluated Y
then_with (ends events (Is x)) go = after events (go x)
then_with (ends events (Fails l)) go = ends events (Fails l)
then_with (ends events Blocked) go = ends events Blocked
then_with (ends events (Over at)) go = ends events (Over at)

-- what there is. In a typed program there always is.
abbrev pub found : {X : Type 0} → Option X → Evaluated X
found (Some x) = is x
found None = blocks

-- continues where the test holds, or ends
abbrev pub unless : {X : Type 0} → Bool → Evaluated X → Evaluated X → Evaluated X
unless true instead go = instead
unless false instead go = go

-- records an event, and continues
abbrev pub recorded : {X : Type 0} → Event → Evaluated X → Evaluated X
recorded e go = after (e ∷ []) go

-- a value whose computation fits, or Over at this place
abbrev pub fitting : {X : Type 0} → Bound → Bool → Pos → X → Evaluated X
fitting Unbounded fits at x = is x
fitting Bounded true at x = is x
fitting Bounded false at x = ends [] (Over at)

-- nothing blocks it
abbrev pub IsNotBlocked : {X : Type 0} → Evaluated X → Type 0
IsNotBlocked (ends events (Is x)) = ⊤
IsNotBlocked (ends events (Fails l)) = ⊤
IsNotBlocked (ends events Blocked) = ⊥
IsNotBlocked (ends events (Over at)) = ⊤
