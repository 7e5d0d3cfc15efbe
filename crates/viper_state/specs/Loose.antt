-- What came loose: where a state has a value and holds nothing. Lists say among which keys that is, a list for each field and
-- for each predicate; where a list is missing, it is not known.
use Rattle.std.specs.Prelude.{◌≡◌, ℕ, Bool, true, false, List, map, slice_get, Some}
use Rattle.std.specs.List.{list_any}
use Rattle.std.specs.BTreeMap.{is_at}
use Rattle.std.specs.Ordering.{nat_cmp}
use Rattle.std.specs.declared.alloc.Global.{Global}
use Rattle.std.specs.declared.cmp.Ordering.{Ordering}
use Rattle.std.specs.declared.vec.Vec.{Vec}
use Rattle.sparse.specs.Map.{Map, keys}
use Rattle.vb_value.specs.Fraction.{Fraction}
use Rattle.vb_value.specs.Key.{key_cmp}
use Rattle.vb_value.specs.declared.contents.Content.{Content}
use Rattle.vb_value.specs.declared.values.Value.{Value}
use Rattle.viper_state.specs.State.{Key}
use Rattle.viper_state.specs.declared.known.Known.{Known}

-- the lists that vectors hold
abbrev pub lists_of : {X : Type 0} → List (Vec X Global) → List (List X)
lists_of {X} vs = map (λ (v : Vec X Global). v.items) vs

-- whether a key stands in a list
abbrev pub is_listed : {K : Type 0} → (K → K → Ordering) → List K → K → Bool
is_listed cmp ks k = list_any (is_at (cmp k)) ks

-- each key that has a value in a heap, and of which nothing is held, stands in a list
abbrev pub IsLooseAmong : {K V : Type 0} → (K → K → Ordering) → Map K V → Map K Fraction → List K → Type 0
IsLooseAmong {K} cmp heap held list =
    (k : K) → is_listed cmp (keys heap) k ≡ true → is_listed cmp (keys held) k ≡ false → is_listed cmp list k ≡ true

-- the same of each heap whose number has a list
abbrev pub AreLooseAmong : {K V : Type 0} → (K → K → Ordering) → List (Map K V) → List (Map K Fraction) → List (List K) → Type 0
AreLooseAmong {K} {V} cmp heaps masks lists =
    (n : ℕ) (heap : Map K V) (held : Map K Fraction) (list : List K) →
    slice_get heaps n ≡ Some heap → slice_get masks n ≡ Some held → slice_get lists n ≡ Some list → IsLooseAmong cmp heap held list

-- the same of a state that has these maps
abbrev pub KnowsLoose : List (Map ℕ Value) → List (Map Key Content) → List (Map ℕ Fraction) → List (Map Key Fraction) → Known → Type 0
KnowsLoose heap content mask amount known =
    AreLooseAmong nat_cmp heap mask (lists_of known.references.items) × AreLooseAmong key_cmp content amount (lists_of known.keys.items)

-- each list has what the list of its number had
abbrev pub AreKept : {K : Type 0} → (K → K → Ordering) → List (List K) → List (List K) → Type 0
AreKept {K} cmp olds news =
    (n : ℕ) (new : List K) → slice_get news n ≡ Some new →
    (old : List K) × (slice_get olds n ≡ Some old) × ((k : K) → is_listed cmp old k ≡ true → is_listed cmp new k ≡ true)

-- a key stands in the list of this number, if there is one
abbrev pub IsNoted : {K : Type 0} → (K → K → Ordering) → List (List K) → ℕ → K → Type 0
IsNoted {K} cmp lists n k = (list : List K) → slice_get lists n ≡ Some list → is_listed cmp list k ≡ true

-- a list for each map, in which all its keys stand
abbrev pub AreListed : {K V : Type 0} → (K → K → Ordering) → List (Map K V) → List (List K) → Type 0
AreListed {K} {V} cmp maps lists =
    (n : ℕ) (m : Map K V) (list : List K) → slice_get maps n ≡ Some m → slice_get lists n ≡ Some list →
    (k : K) → is_listed cmp (keys m) k ≡ true → is_listed cmp list k ≡ true
