-- What the bound changes of a turning run: where it is not Over, it ends as without the bound, and without it it is never Over.
use Rattle.std.specs.Prelude.{⊤, List}
use Rattle.boogie_tree.specs.Value.{BChoice}
use Rattle.boogie_meaning.specs.Run.{Failed, Blocked, Short, Over, Wrong}
use Rattle.boogie_loops.specs.Turning.{Turned, Goes, Halts, Spent}

abbrev pub TurnsWithin : Turned → Type 0
TurnsWithin (Goes env cs n) = ⊤
TurnsWithin (Halts (Failed l) cs) = ⊤
TurnsWithin (Halts Blocked cs) = ⊤
TurnsWithin (Halts Short cs) = ⊤
TurnsWithin (Halts Over cs) = ⊥
TurnsWithin (Halts Wrong cs) = ⊤
TurnsWithin (Spent cs) = ⊤

-- with the bound it is the same, or it is Over
pub data IsTurnedBoundedBy : Turned → Turned → Type 0 where
  same : {t : Turned} → TurnsWithin t → IsTurnedBoundedBy t t
  over : {cs : List BChoice} {t : Turned} → TurnsWithin t → IsTurnedBoundedBy (Halts Over cs) t
