-- A map is made again where its keys are given their values one after the other.
use Rattle.std.proofs.Common.{◌≡◌, ◌∙◌, ◌⊎◌, inl, inr, ℕ, zero, suc, Bool, true, false, cond, List, [], ◌∷◌, ◌++◌, length, slice_set, Contains, refl, sym, ap, arith}
use Rattle.std.specs.BTreeMap.{is_at}
use Rattle.std.specs.Ordering.{is_eq}
use Rattle.std.specs.declared.cmp.Ordering.{Ordering}
use Rattle.std.proofs.lemmas.Bool.{true≢false}
use Rattle.std.proofs.lemmas.Cmp.{tied_itself}
use Rattle.lemmas.proofs.Orders.{is_equal}
use Rattle.lemmas.proofs.Lists.{get_middle}
use Rattle.sparse.specs.Map.{Map, empty, get, set, keys, IsReduced}
use Rattle.sparse.specs.Meaning.{IsExact}
use Rattle.sparse.proofs.MapLaws.{IsReduced-empty, IsReduced-set, get-set_is, map_from_get, Contains-keys}
use Rattle.viper_state.specs.State.{changed_at}

contains_more : {X : Type 0} (k q : X) (ks : List X) → Contains (k ∷ ks) q → (k ≡ q) ⊎ Contains ks q
contains_more k q ks (zero, within, is) = inl is
contains_more k q ks (suc i, within, is) = inr (i, omega (arith, within), is)

none_contained : {X : Type 0} (q : X) → Contains [] q → ⊥
none_contained q (i, within, is) = omega (arith, within)

-- the values that one map has at these keys, put into another one
abbrev pub refilled : {K V : Type 0} → (K → K → Ordering) → (V → V → Bool) → Map K V → Map K V → List K → Map K V
refilled cmp eq m to [] = to
refilled cmp eq m to (k ∷ ks) = refilled cmp eq m (set cmp eq to k (get cmp m k)) ks

module _ {K V : Type 0} {cmp : K → K → Ordering} {eq : V → V → Bool} (x : IsExact cmp eq) (m : Map K V) (r : IsReduced cmp eq m) where
  -- a key has its value, or it is still to come
  abbrev Left : Map K V → List K → K → Type 0
  Left to ks q = (get cmp to q ≡ get cmp m q) ⊎ Contains ks q

  all_left : (q : K) → Left (empty m.default) (keys m) q
  all_left q = by_test (eq (get cmp m q) m.default) refl where
    by_test : (b : Bool) → eq (get cmp m q) m.default ≡ b → Left (empty m.default) (keys m) q
    by_test true e = inl (sym ((x.values (get cmp m q) m.default).0 e))
    by_test false e = inr (Contains-keys x m r q (λ same. true≢false (sym ((x.values (get cmp m q) m.default).1 same) ∙ e)))

  module _ (to : Map K V) (s : IsReduced cmp eq to) (k : K) (ks : List K) (q : K) where
    not_first : (b : Bool) → is_at (cmp q) k ≡ b → b ≡ false → (k ≡ q) ⊎ Contains ks q → Contains ks q
    not_first b e none (inl same) = absurd (true≢false (sym (ap is_eq (ap (cmp q) same ∙ tied_itself x.total q)) ∙ (e ∙ none)))
    not_first b e none (inr more) = more

    one_less_by : (b : Bool) → is_at (cmp q) k ≡ b → Left to (k ∷ ks) q → Left (set cmp eq to k (get cmp m k)) ks q
    one_less_by true e h =
        inl (get-set_is x to s k q (get cmp m k) ∙ (ap (λ b. cond b (get cmp m k) (get cmp to q)) e ∙ ap (get cmp m) (sym (x.keys q k (is_equal (cmp q k) e)))))
    one_less_by false e (inl same) = inl (get-set_is x to s k q (get cmp m k) ∙ (ap (λ b. cond b (get cmp m k) (get cmp to q)) e ∙ same))
    one_less_by false e (inr more) = inr (not_first false e refl (contains_more k q ks more))

  none_left : (to : Map K V) (q : K) → Left to [] q → get cmp to q ≡ get cmp m q
  none_left to q (inl same) = same
  none_left to q (inr more) = absurd (none_contained q more)

  all_refilled : (ks : List K) (to : Map K V) → IsReduced cmp eq to → to.default ≡ m.default → ((q : K) → Left to ks q) → refilled cmp eq m to ks ≡ m
  all_refilled [] to s d h = map_from_get x to m s r d (λ q. none_left to q (h q))
  all_refilled (k ∷ ks) to s d h =
      all_refilled ks (set cmp eq to k (get cmp m k)) (IsReduced-set x.total to s k (get cmp m k)) d (λ q. one_less_by to s k ks q (is_at (cmp q) k) refl (h q))

  pub refilled_is : refilled cmp eq m (empty m.default) (keys m) ≡ m
  refilled_is = all_refilled (keys m) (empty m.default) (IsReduced-empty x.total m.default) refl all_left

-- ---- one map among others

pub set_middle : {X : Type 0} (before : List X) (x y : X) (after : List X) → slice_set (before ++ x ∷ after) (length before) y ≡ before ++ y ∷ after
set_middle [] x y after = refl
set_middle (z ∷ before) x y after = ap (λ xs. z ∷ xs) (set_middle before x y after)

pub changed_middle : {K V : Type 0} (cmp : K → K → Ordering) (eq : V → V → Bool) (before after : List (Map K V)) (x : Map K V) (n : ℕ) (k : K) (v : V) → n ≡ length before →
    changed_at cmp eq (before ++ x ∷ after) n k v ≡ before ++ set cmp eq x k v ∷ after
changed_middle cmp eq before after x n k v at = rw (at, get_middle before x after) (set_middle before x (set cmp eq x k v) after)
