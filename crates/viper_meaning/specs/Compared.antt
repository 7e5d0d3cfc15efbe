-- What the bound changes: an end that is not Over is the end without it, which is never Over.
use Rattle.std.specs.Prelude.{⊤, List}
use Rattle.vb_base.specs.declared.places.Pos.{Pos}
use Rattle.viper_state.specs.Event.{Event}
use Rattle.viper_meaning.specs.Ends.{Evaluated, ends, Is, Fails, Blocked, Over}

abbrev pub IsNotOver : {X : Type 0} → Evaluated X → Type 0
IsNotOver (ends events (Is x)) = ⊤
IsNotOver (ends events (Fails l)) = ⊤
IsNotOver (ends events Blocked) = ⊤
IsNotOver (ends events (Over at)) = ⊥

-- with the bound it is the same, or it is Over
pub data IsBoundedBy {X : Type 0} : Evaluated X → Evaluated X → Type 0 where
  same : {e : Evaluated X} → IsNotOver e → IsBoundedBy e e
  over : {events : List Event} {at : Pos} {e : Evaluated X} → IsNotOver e → IsBoundedBy (ends events (Over at)) e
