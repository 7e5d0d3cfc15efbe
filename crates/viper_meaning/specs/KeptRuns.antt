-- What a run keeps, where it is given only choices with a property.
use Rattle.std.specs.Prelude.{List, All}
use Rattle.viper_state.specs.Choice.{Choice}
use Rattle.viper_state.specs.Event.{Event}
use Rattle.viper_meaning.specs.Ends.{Evaluated}
use Rattle.viper_meaning.specs.Kept.{Keeps}
use Rattle.viper_meaning.specs.Run.{Run, ended, takes}

-- every event has the first property, and what it goes with has the third, where each choice has the second
pub data KeepsRun {X : Type 0} (E : Event → Type 0) (C : Choice → Type 0) (P : X → Type 0) : Run X → Type 0 where
  at_end : {e : Evaluated X} → Keeps E P e → KeepsRun E C P (ended e)
  later : {events : List Event} {next : Choice → Run X} → All E events → ((c : Choice) → C c → KeepsRun E C P (next c)) → KeepsRun E C P (takes events next)
