-- What lines have named, as one list in the order of names.
use Rattle.std.specs.Prelude.{ℕ, zero, suc, ◌+◌, List, [], ◌∷◌, ◌++◌, map}
use Rattle.std.specs.BTreeSet.{BTreeSet, insert_key}
use Rattle.std.specs.declared.cmp.Ordering.{Ordering}
use Rattle.run_file.specs.declared.lines.LineTarget.{LineTarget}
use Rattle.run_file.specs.declared.lines.LineTarget.TheVariants.{Variable, Place, Instance}
use Rattle.run_file.specs.declared.named_sets.NamedSets.{NamedSets}

abbrev pub keys_of : {K : Type 0} → BTreeSet K → List K
keys_of set = set.keys

-- a key more in the set of a number, where what is behind the last set is empty
abbrev pub with_key : {K : Type 0} → (K → K → Ordering) → List (List K) → ℕ → K → List (List K)
with_key cmp [] zero k = (k ∷ []) ∷ []
with_key cmp [] (suc n) k = [] ∷ with_key cmp [] n k
with_key cmp (set ∷ sets) zero k = insert_key cmp set k ∷ sets
with_key cmp (set ∷ sets) (suc n) k = set ∷ with_key cmp sets n k

-- the names of the keys of sets that are numbered from here on
abbrev pub names_from : {K : Type 0} → (ℕ → K → LineTarget) → ℕ → List (List K) → List LineTarget
names_from name n [] = []
names_from name n (set ∷ sets) = map (name n) set ++ names_from name (n + 1) sets

abbrev pub named_of : NamedSets → List LineTarget
named_of x = map Variable x.variables.keys ++ (names_from Place 0 (map keys_of x.places.items) ++ names_from Instance 0 (map keys_of x.instances.items))
