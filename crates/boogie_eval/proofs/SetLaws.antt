-- Sets of keys, as maps that are true at their keys.
use Rattle.std.proofs.Common.{◌≡◌, refl, sym, ap, ◌∙◌, Bool as Truth, true, false, ◌||◌, cond, Option, Some, unwrap_or, List, [], ◌∷◌, All}
use Rattle.std.specs.Bool.{beq}
use Rattle.std.specs.Cmp.{booleans_Decides}
use Rattle.std.specs.BTreeMap.{is_at}
use Rattle.std.specs.Map.{keys_of, values_of, lookup}
use Rattle.std.proofs.lemmas.List.Elements.{All-head, All-tail}
use Rattle.lemmas.proofs.Tests.{cond_or}
use Rattle.sparse.specs.Map.{Map, keys, get, set, IsReduced, IsSame, ClonesAreEqual}
use Rattle.sparse.specs.Meaning.{IsExact}
use Rattle.sparse.proofs.MeaningLaws.{IsMeaning-itself, ClonesAreEqual-from_meaning}
use Rattle.sparse.proofs.MapLaws.{map_from_same, get-set_is}
use Rattle.vb_value.specs.Key.{key_cmp}
use Rattle.vb_value.specs.KeyOrder.{key_cmp_total}
use Rattle.vb_value.proofs.KeyLaws.{same_from_key_cmp}
use Rattle.boogie_tree.specs.Value.{Key}
use Rattle.boogie_meaning.specs.Decided.{is_listed, same_key}
use Rattle.boogie_eval.specs.Searched.{IsSet}

exact : IsExact key_cmp beq
exact = record { total = key_cmp_total; keys = same_from_key_cmp; values = booleans_Decides }

is_true : (v z : Truth) → z ≡ false → beq v z ≡ false → v ≡ true
is_true true z h g = refl
is_true false true h g = absurd (cc)
is_true false false h g = absurd (cc)

first : (s v : Truth) (rest : Option Truth) (z r : Truth) → v ≡ true → r ≡ unwrap_or rest z → (s || r) ≡ unwrap_or (cond s (Some v) rest) z
first true v rest z r h g = sym h
first false v rest z r h g = g

listed_by : (es : List (Key × Truth)) (z : Truth) (k : Key) → z ≡ false → All (λ v. beq v z ≡ false) (values_of es) → is_listed (keys_of es) k ≡ unwrap_or (lookup (is_at (key_cmp k)) es) z
listed_by [] z k h g = sym h
listed_by (e ∷ es) z k h g =
    first (same_key k e.0) e.1 (lookup (is_at (key_cmp k)) es) z (is_listed (keys_of es) k) (is_true e.1 z h (All-head (λ v. beq v z ≡ false) e.1 (values_of es) g))
    (listed_by es z k h (All-tail (λ v. beq v z ≡ false) e.1 (values_of es) g))

-- a key is in the set where the map is true
pub listed_is : (m : Map Key Truth) (k : Key) → IsSet m → IsReduced key_cmp beq m → get key_cmp m k ≡ is_listed (keys m) k
listed_is m k h r = sym (listed_by m.entries m.default k h r.no_default)

pub clones : {kc : Key → Key → Type 0} {vc : Truth → Truth → Type 0} → ((k q : Key) → kc k q → q ≡ k) → ((x y : Truth) → vc x y → y ≡ x) → ClonesAreEqual key_cmp beq kc vc
clones keys values = ClonesAreEqual-from_meaning (IsMeaning-itself key_cmp beq) exact keys values

-- the set with one more key
module _ (m n : Map Key Truth) (x : Key) (h : IsSet m) (same : IsSame key_cmp beq (set key_cmp beq m x true) n) where
  pub stays_set : IsSet n
  stays_set = sym (ap (λ p. p.default) (map_from_same exact (set key_cmp beq m x true) n same)) ∙ h

  pub added : IsReduced key_cmp beq m → IsReduced key_cmp beq n → (k : Key) → is_listed (keys n) k ≡ is_listed (x ∷ keys m) k
  added r q k =
      sym (listed_is n k stays_set q)
      ∙ ap (λ p. get key_cmp p k) (sym (map_from_same exact (set key_cmp beq m x true) n same))
      ∙ get-set_is exact m r x k true
      ∙ cond_or (same_key k x) (get key_cmp m k)
      ∙ ap (λ t. same_key k x || t) (listed_is m k h r)
