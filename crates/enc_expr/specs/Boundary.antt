-- Code and what it stands for end alike in both directions: on the moves of the events the code ends as the evaluation does,
-- and where a run of the code is done or fails, the evaluation ends so too and its moves are the choices that were taken.
use Rattle.std.specs.Prelude.{⊤, List}
use Rattle.vb_base.specs.declared.labels.Label.{Label}
use Rattle.vb_base.specs.declared.places.Pos.{Pos}
use Rattle.vb_value.specs.Bound.{Bound, Bounded}
use Rattle.viper_state.specs.Event.{Event}
use Rattle.viper_meaning.specs.Ends.{Evaluated, ends, events_of, Is, Fails, Blocked, Over}
use Rattle.boogie_tree.specs.Value.{BChoice}
use Rattle.boogie_meaning.specs.Run as r
use Rattle.moves.specs.Moves.{moves}
use Rattle.enc_expr.specs.Coupling.{Env}
use Rattle.enc_expr.specs.Alike.{Follows}

-- The evaluation has this end where the run has it, and the moves of the events are the choices that were taken. Where the
-- evaluation is blocked the run is too, or wants a choice that no event gives.
pub data EndsAlike {X : Type 0} (Q : X → Env → Type 0) : Bound → Evaluated X → List BChoice → r.Run → Type 0 where
  done : {b : Bound} {events : List Event} {cs rest : List BChoice} {x : X} {E : Env} → Follows events cs rest → Q x E → EndsAlike Q b (ends events (Is x)) cs (r.Done E rest)
  failed : {b : Bound} {events : List Event} {cs rest : List BChoice} {l : Label} → Follows events cs rest → EndsAlike Q b (ends events (Fails l)) cs (r.Stops (r.Failed l) rest)
  blocked : {b : Bound} {events : List Event} {cs rest : List BChoice} → Follows events cs rest → EndsAlike Q b (ends events Blocked) cs (r.Stops r.Blocked rest)
  short : {b : Bound} {events : List Event} {cs rest : List BChoice} → Follows events cs rest → EndsAlike Q b (ends events Blocked) cs (r.Stops r.Short rest)
  -- of what leaves the bound it is said that the choices begin with its moves, and nothing of the end of the run
  over : {events : List Event} {at : Pos} {cs rest : List BChoice} {run : r.Run} → Follows events cs rest → EndsAlike Q Bounded (ends events (Over at)) cs run

-- the run is done, or failed
abbrev pub HasEnded : r.Run → Type 0
HasEnded (r.Done env cs) = ⊤
HasEnded (r.Stops (r.Failed l) cs) = ⊤
HasEnded (r.Stops r.Blocked cs) = ⊥
HasEnded (r.Stops r.Short cs) = ⊥
HasEnded (r.Stops r.Over cs) = ⊥
HasEnded (r.Stops r.Wrong cs) = ⊥

-- the evaluation and the runs of its code, by their choices
pub record AreAlike {X : Type 0} (b : Bound) (Q : X → Env → Type 0) (e : Evaluated X) (run : List BChoice → r.Run) : Type 0 where
  pub on_moves : EndsAlike Q b e (moves (events_of e)) (run (moves (events_of e)))
  pub each_run : (cs : List BChoice) → HasEnded (run cs) → EndsAlike Q b e cs (run cs)
