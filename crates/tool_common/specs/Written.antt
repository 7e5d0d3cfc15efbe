-- What writing a text to a sink comes to, where these are the kinds of statuses.
use Rattle.std.specs.Prelude.{◌≡◌, ℕ, List, Option}
use Rattle.vb_outer.specs.Faults.{Rose}
use Rattle.vb_outer.specs.Sink.{Appends, AppendsPrefix}
use Rattle.tool_common.specs.Kind.{Kind, Unwritten, NoMemory}

-- a text goes to the sink, and the call ends with its status; but for a fault of the sink, after which a prefix of the text stands there
pub data Delivers {S : Type 0} (kind : S → Kind) (before now : Option (List ℕ)) (faults_before faults_now : ℕ) (text : List ℕ) (status : S) : S → Type 0 where
  delivered : Appends before now text → Delivers kind before now faults_before faults_now text status status
  unwritten : {ended : S} → kind ended ≡ Unwritten → AppendsPrefix before now text → Rose faults_before faults_now →
      Delivers kind before now faults_before faults_now text status ended

-- the line of a status goes to the sink, and the call ends with that status; but for a fault of the sink, and for lack of memory
pub data Reports {S : Type 0} (kind : S → Kind) (before now : Option (List ℕ)) (faults_before faults_now : ℕ) (line : List ℕ) (status : S) : S → Type 0 where
  said : {ended : S} → Delivers kind before now faults_before faults_now line status ended → Reports kind before now faults_before faults_now line status ended
  no_memory : {ended : S} → kind ended ≡ NoMemory → now ≡ before → Reports kind before now faults_before faults_now line status ended
