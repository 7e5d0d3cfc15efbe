-- What a run needs, so that it can be computed.
use Rattle.std.specs.Prelude.{List, All}
use Rattle.boogie_tree.specs.Value.{BValue, BChoice}
use Rattle.boogie_meaning.specs.Run.{Run, Done, Stops}
use Rattle.boogie_eval.specs.Within.{IsWithinValue, IsWithinChoice}

-- the numbers of the environment and of the choices that are left are within the bound
pub record IsReady (env : List BValue) (cs : List BChoice) : Type 0 where
  pub values : All IsWithinValue env
  pub choices : All IsWithinChoice cs

-- they are so where the run is done
abbrev pub KeepsReady : Run → Type 0
KeepsReady (Done env cs) = IsReady env cs
KeepsReady (Stops w cs) = All IsWithinChoice cs
