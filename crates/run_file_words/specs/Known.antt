-- What the lines of a file may name: names in order, each with its type.
use Rattle.std.specs.Prelude.{◌≡◌, ℕ, List, [], Some, slice_get}

-- the names of one kind in order, each with its type
pub record Known (T : Type 0) : Type 0 where
  pub names : List (List ℕ)
  pub types : List T

-- the one of this number has this name and type
pub record HasName {T : Type 0} (k : Known T) (n : ℕ) (name : List ℕ) (t : T) : Type 0 where
  pub named : slice_get k.names n ≡ Some name
  pub typed : slice_get k.types n ≡ Some t

abbrev pub nothing_known : {T : Type 0} → Known T
nothing_known = record { names = []; types = [] }
