-- Where nothing is held.
use Rattle.std.specs.Prelude.{◌≡◌, Bool, true, List}
use Rattle.std.specs.declared.cmp.Ordering.{Ordering}
use Rattle.sparse.specs.Map.{Map, get}
use Rattle.vb_value.specs.Fraction.{Fraction}
use Rattle.vb_value.specs.Value.{fraction_eq}
use Rattle.viper_state.specs.Loose.{is_listed}

-- the permission at a key is that of every key without an entry
abbrev pub is_free : {K : Type 0} → (K → K → Ordering) → Map K Fraction → K → Bool
is_free cmp held k = fraction_eq (get cmp held k) held.default

-- keys at which nothing is held, among them each such key of a list
pub record AreFree {K : Type 0} (cmp : K → K → Ordering) (all : List K) (held : Map K Fraction) (ks : List K) : Type 0 where
  pub free : (k : K) → is_listed cmp ks k ≡ true → is_free cmp held k ≡ true
  pub each : (k : K) → is_listed cmp all k ≡ true → is_free cmp held k ≡ true → is_listed cmp ks k ≡ true
