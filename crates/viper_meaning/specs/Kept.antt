-- What an evaluation keeps.
use Rattle.std.specs.Prelude.{⊤, List, All}
use Rattle.vb_base.specs.declared.labels.Label.{Label}
use Rattle.vb_base.specs.declared.places.Pos.{Pos}
use Rattle.viper_state.specs.Event.{Event}
use Rattle.viper_meaning.specs.Ends.{Evaluated, ends, Is, Fails, Blocked, Over}

-- nothing is said
abbrev pub IsAny : {X : Type 0} → X → Type 0
IsAny x = ⊤

-- every event has the first property, and the value has the second, where there is a value
pub data Keeps {X : Type 0} (E : Event → Type 0) (P : X → Type 0) : Evaluated X → Type 0 where
  value : {events : List Event} {x : X} → All E events → P x → Keeps E P (ends events (Is x))
  failure : {events : List Event} {l : Label} → All E events → Keeps E P (ends events (Fails l))
  blocked : {events : List Event} → All E events → Keeps E P (ends events Blocked)
  over : {events : List Event} {at : Pos} → All E events → Keeps E P (ends events (Over at))
