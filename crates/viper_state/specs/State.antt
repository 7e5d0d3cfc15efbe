-- The states of a Viper program: total heaps with masks (Parthasarathy, Dardinier, Bonneau, Mueller, Summers, "Towards
-- Trustworthy Automated Program Verifiers", PLDI 2024). A place is a field of a reference, an instance a predicate with its
-- arguments. What an instance contains is kept as a tree.
use Rattle.std.specs.Prelude.{ℕ, Bool, List, length, replicate, slice_get, slice_set, Option, Some, None}
use Rattle.std.specs.Option.{option_map}
use Rattle.std.specs.Ordering.{nat_cmp}
use Rattle.std.specs.declared.cmp.Ordering.{Ordering}
use Rattle.sparse.specs.Map.{Map, empty, get, set}
use Rattle.vb_value.specs.Fraction.{Fraction, none}
use Rattle.vb_value.specs.Content.{Content, same_content}
use Rattle.vb_value.specs.Key.{key_cmp}
use Rattle.vb_value.specs.Layout.{Layout}
use Rattle.vb_value.specs.Value.{fraction_eq, value_eq}
use Rattle.vb_value.specs.declared.keys.KeyPart.{KeyPart}
use Rattle.vb_value.specs.declared.values.Value.{Value}

-- the arguments of an instance
abbrev pub Key : Type 0
Key = List KeyPart

-- A heap and the contents of all instances: for each field a map of references, and for each predicate one of arguments.
pub record Memo : Type 0 where
  pub heap : List (Map ℕ Value)
  pub content : List (Map Key Content)

-- the same, with the permission that is held to each place, and how much of each instance is held
pub record State : Type 0 where
  pub heap : List (Map ℕ Value)
  pub content : List (Map Key Content)
  pub mask : List (Map ℕ Fraction)
  pub amount : List (Map Key Fraction)

-- the state with this heap and these contents, in which nothing is held
abbrev pub empty_state : Layout → Memo → State
empty_state layout m = record {
  heap = m.heap;
  content = m.content;
  mask = replicate (length layout.fields) (empty none);
  amount = replicate (length layout.keys) (empty none);
}

-- ---- places and instances. There is none of a field or predicate whose number no map has.

-- what the map of this number has at a key
abbrev pub found_at : {K V : Type 0} → (K → K → Ordering) → List (Map K V) → ℕ → K → Option V
found_at cmp maps n k = option_map (λ m. get cmp m k) (slice_get maps n)

abbrev pub value_at : State → ℕ → ℕ → Option Value
value_at s field r = found_at nat_cmp s.heap field r

abbrev pub mask_at : State → ℕ → ℕ → Option Fraction
mask_at s field r = found_at nat_cmp s.mask field r

abbrev pub content_at : State → ℕ → Key → Option Content
content_at s predicate k = found_at key_cmp s.content predicate k

abbrev pub amount_at : State → ℕ → Key → Option Fraction
amount_at s predicate k = found_at key_cmp s.amount predicate k

-- the maps, where that of this number has another value at a key
abbrev pub changed : {K V : Type 0} → (K → K → Ordering) → (V → V → Bool) → List (Map K V) → ℕ → K → V → Option (Map K V) → List (Map K V)
changed cmp eq maps n k v None = maps
changed cmp eq maps n k v (Some m) = slice_set maps n (set cmp eq m k v)

abbrev pub changed_at : {K V : Type 0} → (K → K → Ordering) → (V → V → Bool) → List (Map K V) → ℕ → K → V → List (Map K V)
changed_at cmp eq maps n k v = changed cmp eq maps n k v (slice_get maps n)

abbrev pub with_value : State → ℕ → ℕ → Value → State
with_value s field r v = record s { heap = changed_at nat_cmp value_eq s.heap field r v }

abbrev pub with_mask : State → ℕ → ℕ → Fraction → State
with_mask s field r q = record s { mask = changed_at nat_cmp fraction_eq s.mask field r q }

abbrev pub with_content : State → ℕ → Key → Content → State
with_content s predicate k c = record s { content = changed_at key_cmp same_content s.content predicate k c }

abbrev pub with_amount : State → ℕ → Key → Fraction → State
with_amount s predicate k q = record s { amount = changed_at key_cmp fraction_eq s.amount predicate k q }
