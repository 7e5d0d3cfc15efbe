-- Maps with a default: every key has a value, and all but finitely many keys have the default. So are
-- the total heaps and masks of a Viper state (Parthasarathy et al., Towards Trustworthy Automated
-- Program Verifiers, PLDI 2024), and the maps of Boogie (Leino, This is Boogie 2).
use Rattle.std.specs.Prelude.{◌≡◌, Bool, true, false, not, ◌&&◌, List, [], ◌∷◌, if◌then◌else◌, All, map, unwrap_or, refl}
use Rattle.std.specs.List.{AllZip, list_all}
use Rattle.std.specs.List.Sorted.{IsStrictlySortedBy}
use Rattle.std.specs.Map.{keys_of, values_of, lookup, remove_entry}
use Rattle.std.specs.BTreeMap.{insert_entry, is_at}
use Rattle.std.specs.Ordering.{is_lt}
use Rattle.std.specs.Coded.{Coded, code_by, coded×, coded_list}
use denote.Ref.{Bor}
use Rattle.std.specs.declared.cmp.Ordering.{Ordering}
use Rattle.std.specs.declared.cmp.Ordering.TheVariants.{Equal}

-- the default, and the entries of the keys that have another value, in ascending order of the keys
pub record Map (K V : Type 0) : Type 0 where
  pub default : V
  pub entries : List (K × V)

-- a map is stored as the pair of its parts
abbrev pub map_code : {K V : Type 0} → Coded K → Coded V → Coded (Map K V)
map_code {K} {V} k v =
    code_by (V × List (K × V)) (coded× v (coded_list (coded× k v))) (λ m. (m.default, m.entries)) (λ p. record { default = p.0; entries = p.1 }) (λ _. refl)

module _ {K V : Type 0} where
  -- every key has the default
  abbrev pub empty : V → Map K V
  empty z = record { default = z; entries = [] }

  -- the keys that have another value than the default, in ascending order
  abbrev pub keys : Map K V → List K
  keys m = keys_of m.entries

  -- their values, in the order of the keys
  abbrev pub values : Map K V → List V
  values m = values_of m.entries

  -- the value at a key: that of its entry, and the default where it has none
  abbrev pub get : (K → K → Ordering) → Map K V → K → V
  get cmp m k = unwrap_or (lookup (is_at (cmp k)) m.entries) m.default

  -- the map with the value v at the key k: the default takes the entry away, and any other value puts one in its place
  abbrev pub set : (K → K → Ordering) → (V → V → Bool) → Map K V → K → V → Map K V
  set cmp eq m k v =
      record { default = m.default; entries = if eq v m.default then remove_entry (is_at (cmp k)) m.entries else insert_entry cmp m.entries k v }

-- what is borrowed in a list
abbrev pub borrowed : {X : Type 0} → List (Bor X) → List X
borrowed {X} xs = map (λ (b : Bor X). b.now) xs

-- the keys ascend, and no entry has the default's value: so a map is written in one way only
pub record IsReduced {K V : Type 0} (cmp : K → K → Ordering) (eq : V → V → Bool) (m : Map K V) : Type 0 where
  pub ascending : IsStrictlySortedBy cmp (keys m)
  pub no_default : All (λ v. eq v m.default ≡ false) (values m)

-- each key is below those after it
abbrev pub is_ascending : {K : Type 0} → (K → K → Ordering) → List K → Bool
is_ascending cmp [] = true
is_ascending cmp (k ∷ ks) = list_all (λ q. is_lt (cmp k q)) ks && is_ascending cmp ks

-- the same as `IsReduced`, as a test
abbrev pub is_reduced : {K V : Type 0} → (K → K → Ordering) → (V → V → Bool) → Map K V → Bool
is_reduced cmp eq m = is_ascending cmp (keys m) && list_all (λ v. not (eq v m.default)) (values m)

-- two maps that the order of the keys and the equality of the values do not tell apart
pub record IsSame {K V : Type 0} (cmp : K → K → Ordering) (eq : V → V → Bool) (m n : Map K V) : Type 0 where
  pub default : eq m.default n.default ≡ true
  pub entries : AllZip (λ p q. (cmp p.0 q.0 ≡ Equal) × (eq p.1 q.1 ≡ true)) m.entries n.entries

-- a clone of a key is equal to its source, and so is a clone of a value
pub record ClonesAreEqual {K V : Type 0} (cmp : K → K → Ordering) (eq : V → V → Bool) (is_key_clone : K → K → Type 0) (is_value_clone : V → V → Type 0) : Type 0 where
  pub keys : (k q : K) → is_key_clone k q → cmp k q ≡ Equal
  pub values : (v w : V) → is_value_clone v w → eq v w ≡ true
