-- What a well-typed run keeps.
use Rattle.std.specs.Prelude.{List, All}
use Rattle.vb_base.specs.declared.labels.Label.{Label}
use Rattle.boogie_tree.specs.Program.{BType}
use Rattle.boogie_tree.specs.Value.{BValue, BChoice}
use Rattle.boogie_tree.specs.Values.{IsEnvironment, IsReducedChoice}
use Rattle.boogie_meaning.specs.Run.{Run, Done, Stops, Failed, Blocked, Short, Over}

-- it is not Wrong, and where it is done each variable has a value of its type
pub data KeepsTypes (ls : List BType) : Run → Type 0 where
  done : {env : List BValue} {cs : List BChoice} → IsEnvironment ls env → All IsReducedChoice cs → KeepsTypes ls (Done env cs)
  failed : {l : Label} {cs : List BChoice} → KeepsTypes ls (Stops (Failed l) cs)
  blocked : {cs : List BChoice} → KeepsTypes ls (Stops Blocked cs)
  short : {cs : List BChoice} → KeepsTypes ls (Stops Short cs)
  over : {cs : List BChoice} → KeepsTypes ls (Stops Over cs)
