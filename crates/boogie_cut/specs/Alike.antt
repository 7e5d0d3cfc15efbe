-- Runs that end alike.
use Rattle.std.specs.Prelude.{◌≡◌, ℕ, List, ◌++◌, length}
use Rattle.boogie_tree.specs.Value.{BValue, BChoice}
use Rattle.boogie_meaning.specs.Run.{Run, Done, Stop, Stops}

-- Both end so, with the same choices left. Where they are done, the first n variables have the same values, and further ones stand
-- behind them.
pub data EndAlike (n : ℕ) : Run → Run → Type 0 where
  done : {env : List BValue} {cs : List BChoice} (extra : List BValue) → length env ≡ n → EndAlike n (Done (env ++ extra) cs) (Done env cs)
  stops : {why : Stop} {cs : List BChoice} → EndAlike n (Stops why cs) (Stops why cs)
