-- What it means that producing comes to the same as an evaluation, and changes nothing but what is held.
use Rattle.std.specs.Prelude.{◌≡◌}
use Rattle.viper_state.specs.State.{State}
use Rattle.viper_meaning.specs.Ends.{Evaluated, the_end}
use Rattle.viper_meaning.specs.Run.{Run, ended}
use Rattle.viper_meaning.specs.Sat.{Has}

-- the run takes no choice, ends as the evaluation does, and leaves the heap and the contents of this state
pub record IsProduced (s : State) (r : Run State) (e : Evaluated State) : Type 0 where
  pub evaluated : Evaluated State
  pub run : r ≡ ended evaluated
  pub same_end : the_end evaluated ≡ the_end e
  pub keeps : (t : State) → Has t evaluated → (t.heap ≡ s.heap) × (t.content ≡ s.content)
