-- What a map means where its keys and values are seen through something else: a key that holds a `Vec`
-- as the list of its parts, a tree with boxes as a plain tree.
use Rattle.std.specs.Prelude.{◌≡◌, Bool, map}
use Rattle.std.specs.Bool.{Decides}
use Rattle.std.specs.Cmp.{IsTotalOrder}
use Rattle.sparse.specs.Map.{Map}
use Rattle.std.specs.declared.cmp.Ordering.{Ordering}
use Rattle.std.specs.declared.cmp.Ordering.TheVariants.{Equal}

-- the order is total and answers `Equal` only for equal keys, and the equality answers true exactly for equal values
pub record IsExact {K V : Type 0} (cmp : K → K → Ordering) (eq : V → V → Bool) : Type 0 where
  pub total : IsTotalOrder cmp
  pub keys : (k q : K) → cmp k q ≡ Equal → k ≡ q
  pub values : (v w : V) → Decides (eq v w) (v ≡ w)

-- f and g say what a key and a value mean: `cmp` compares keys as `order` does what they mean, and `eq` values as `same` does
pub record IsMeaning {K V M N : Type 0} (cmp : K → K → Ordering) (eq : V → V → Bool) (f : K → M) (g : V → N) (order : M → M → Ordering) (same : N → N → Bool) : Type 0 where
  pub keys : (k q : K) → cmp k q ≡ order (f k) (f q)
  pub values : (v w : V) → eq v w ≡ same (g v) (g w)

-- the map of what the keys and values mean
abbrev pub meaning_of : {K V M N : Type 0} → (K → M) → (V → N) → Map K V → Map M N
meaning_of {K} {V} {M} {N} f g m =
    record { default = g m.default; entries = map {B = M × N} (λ (e : K × V). (f e.0, g e.1)) m.entries }
