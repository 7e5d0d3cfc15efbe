-- What the bound changes: an end that is not Over is the end without it, which is never Over.
use Rattle.std.specs.Prelude.{⊤, List}
use Rattle.boogie_tree.specs.Value.{BChoice}
use Rattle.boogie_meaning.specs.Ends as ends
use Rattle.boogie_meaning.specs.Ends.{End, Is}
use Rattle.boogie_meaning.specs.Run.{Run, Done, Stops, Failed, Blocked, Short, Over, Wrong}

abbrev pub IsNotOver : {X : Type 0} → End X → Type 0
IsNotOver (Is x) = ⊤
IsNotOver ends.Over = ⊥
IsNotOver ends.Wrong = ⊤

-- with the bound it is the same, or it is Over
pub data IsBoundedBy {X : Type 0} : End X → End X → Type 0 where
  same : {e : End X} → IsNotOver e → IsBoundedBy e e
  over : {e : End X} → IsNotOver e → IsBoundedBy ends.Over e

abbrev pub StaysWithin : Run → Type 0
StaysWithin (Done env cs) = ⊤
StaysWithin (Stops (Failed l) cs) = ⊤
StaysWithin (Stops Blocked cs) = ⊤
StaysWithin (Stops Short cs) = ⊤
StaysWithin (Stops Over cs) = ⊥
StaysWithin (Stops Wrong cs) = ⊤

-- the same of runs
pub data RunIsBoundedBy : Run → Run → Type 0 where
  same : {r : Run} → StaysWithin r → RunIsBoundedBy r r
  over : {cs : List BChoice} {r : Run} → StaysWithin r → RunIsBoundedBy (Stops Over cs) r
