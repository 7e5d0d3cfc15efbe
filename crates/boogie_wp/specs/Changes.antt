-- What a branch changes, so that the other one can begin with the same names, and only what was changed is brought together.
use Rattle.std.specs.Prelude.{◌≡◌, ◌≤◌, ◌<◌, ◌+◌, ℕ, List, [], ◌∷◌, slice_get, slice_set}
use Rattle.boogie_wp.specs.Build.{number_at}
use Rattle.boogie_wp.specs.declared.names.LocalChange.{LocalChange}
use Rattle.boogie_wp.specs.declared.names.BranchedLocal.{BranchedLocal}
use Rattle.boogie_wp.specs.declared.names.LocalVersions.{LocalVersions}

abbrev pub local_of : LocalChange → ℕ
local_of x = x.local

-- the names with these changes: of several changes of one local, the first one in the list counts
abbrev pub changed : List LocalChange → List ℕ → List ℕ
changed [] vs = vs
changed (x ∷ xs) vs = slice_set (changed xs vs) x.local x.name

-- the names with which the branch began
abbrev pub begun : LocalVersions → List ℕ
begun x = changed x.changes.items x.versions.items

-- the name of a local
abbrev pub end_of : List ℕ → ℕ → LocalChange
end_of vs i = record { local = i; name = number_at vs i }

-- the name of a local, and beside it that of the second branch
abbrev pub choice_of : List ℕ → LocalChange → BranchedLocal
choice_of vs x = record { local = x.local; first = number_at vs x.local; second = x.name }

-- Below, two branches begin with the names us, and end with the names vs and ws.

-- neither branch changes the local
abbrev pub IsKept : List ℕ → List ℕ → List ℕ → ℕ → Type 0
IsKept us vs ws i = (slice_get vs i ≡ slice_get us i) × (slice_get ws i ≡ slice_get us i)

-- the choices, in the order of the locals, are of all locals from the m-th on that a branch changes
abbrev pub Chosen : List ℕ → List ℕ → List ℕ → ℕ → List BranchedLocal → Type 0
Chosen us vs ws m [] = (i : ℕ) → m ≤ i → IsKept us vs ws i
Chosen us vs ws m (x ∷ xs) =
    (m ≤ x.local) × ((i : ℕ) → m ≤ i → i < x.local → IsKept us vs ws i) × (x.first ≡ number_at vs x.local) × (x.second ≡ number_at ws x.local) × Chosen us vs ws (x.local + 1) xs
