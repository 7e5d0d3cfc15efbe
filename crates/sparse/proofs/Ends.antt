-- A key above all others: its entry goes to the end.
use Rattle.std.proofs.Common.{◌≡◌, ℕ, zero, suc, ◌+◌, ◌-◌, Bool, true, false, slice_get, List, [], ◌∷◌, ◌++◌, length, refl, sym, ap, ◌∙◌, arith}
use Rattle.std.specs.List.{AllByRecursion}
use Rattle.std.specs.List.Sorted.{IsStrictlySortedBy}
use Rattle.std.specs.Map.{keys_of, remove_entry}
use Rattle.std.specs.BTreeMap.{is_at}
use Rattle.std.specs.Cmp.{IsTotalOrder, IsEquivalence}
use Rattle.std.specs.Ordering.{is_gt}
use Rattle.std.specs.declared.cmp.Ordering.{Ordering}
use Rattle.std.specs.declared.cmp.Ordering.TheVariants.{Less, Equal, Greater}
use Rattle.std.specs.declared.option.Option.TheVariants.{Some}
use Rattle.std.specs.Result.{OnOk, OnErr}
use Rattle.std.specs.declared.result.Result.{Result}
use Rattle.std.specs.declared.result.Result.TheVariants.{Ok, Err}
use Rattle.std.specs.declared.rc.Rc.{Rc}
use Rattle.std.proofs.lemmas.List.{map-append}
use Rattle.sparse.specs.Map.{set, IsReduced, IsSame}
use Rattle.sparse.specs.Tree.{shared, put_entry}
use Rattle.sparse.proofs.Splits.{turned}
use Rattle.sparse.proofs.MapLaws.{taken-is_set, put-is_set, IsReduced-is_set}

greater : (r : Ordering) → is_gt r ≡ true → r ≡ Greater
greater Less h = cc
greater Equal h = cc
greater Greater h = refl

module _ {K V : Type 0} (R : K → K → Ordering) (k : K) where
  abbrev pub IsAbove : List (K × V) → Type 0
  IsAbove es = AllByRecursion (λ q. R k q ≡ Greater) (keys_of es)

  -- a key above the last is above all
  above_last : {Z : Type 0} (o : IsTotalOrder R) (list : List (Rc (K × V) Z)) (e : Rc (K × V) Z) (i : ℕ) → length list ≡ i + 1 → slice_get list i ≡ Some e → IsStrictlySortedBy R (keys_of (shared list)) → R k e.value.0 ≡ Greater → IsAbove (shared list)
  unfolding IsStrictlySortedBy
  above_last o [] e i n at s h = absurd (omega arith)
  above_last o (x ∷ []) e zero n at s h =
      let is : x ≡ e = cc in
      (rw is h, tt)
  above_last o (x ∷ []) e (suc i) n at s h = absurd (omega arith)
  above_last o (x ∷ y ∷ ys) e zero n at s h = absurd (omega arith)
  above_last o (x ∷ y ∷ ys) e (suc i) n at s h =
      let rest : IsAbove (shared (y ∷ ys)) = above_last o (y ∷ ys) e i (omega arith) at s.1 h in
      (turned o x.value.0 k Less (o.trans x.value.0 y.value.0 k s.0.0 (turned o k y.value.0 Greater rest.0)), rest)

  pub above_by_test : {Z : Type 0} (o : IsTotalOrder R) (list : List (Rc (K × V) Z)) (e : Rc (K × V) Z) → Some e ≡ slice_get list (length list - 1) → IsStrictlySortedBy R (keys_of (shared list)) → is_gt (R k e.value.0) ≡ true → IsAbove (shared list)
  above_by_test o [] e at s h = tt
  above_by_test o (x ∷ xs) e at s h =
      above_last o (x ∷ xs) e (length (x ∷ xs) - 1) (omega arith) (sym at) s (greater (R k e.value.0) h)

  nothing_at : (es : List (K × V)) → IsAbove es → es ≡ remove_entry (is_at (R k)) es
  nothing_at [] a = refl
  nothing_at (e ∷ es) a = rw a.0 (ap (λ (t : List (K × V)). e ∷ t) (nothing_at es a.1))

  at_end : (v : V) (es : List (K × V)) → IsAbove es → es ++ (k, v) ∷ [] ≡ put_entry R es (k, v)
  at_end v [] a = refl
  at_end v (e ∷ es) a = rw a.0 (ap (λ (t : List (K × V)). e ∷ t) (at_end v es a.1))

module _ {K V Z : Type 0} {cmp : K → K → Ordering} (o : IsTotalOrder cmp) {eq : V → V → Bool} (equiv : IsEquivalence eq) (z : V) (list : List (Rc (K × V) Z)) (k : K) (v : V) (above : IsAbove cmp k (shared list)) where
  -- the default changes nothing there
  pub default_above : eq v z ≡ true → IsSame cmp eq (set cmp eq (record { default = z; entries = shared list }) k v) (record { default = z; entries = shared list })
  default_above is = taken-is_set o equiv z (shared list) (shared list) k v is (nothing_at cmp k (shared list) above)

  -- and another value is one more entry
  pub put_above : (e : Rc (K × V) Z) → e.value ≡ (k, v) → (more : List (Rc (K × V) Z)) → more ≡ list ++ e ∷ [] → eq v z ≡ false → IsSame cmp eq (set cmp eq (record { default = z; entries = shared list }) k v) (record { default = z; entries = shared more })
  put_above e e_is more more_is is =
      let entries : shared more ≡ shared list ++ (k, v) ∷ [] =
      ap shared more_is ∙ map-append (λ (x : Rc (K × V) Z). x.value) list (e ∷ []) ∙ ap (λ (x : K × V). shared list ++ x ∷ []) e_is in
      put-is_set o equiv z (shared list) (shared more) k v is (entries ∙ at_end cmp k v (shared list) above)

-- a map stays reduced, whether or not there was memory for the change
pub reduced_after : {K V : Type 0} {cmp : K → K → Ordering} (o : IsTotalOrder cmp) {eq : V → V → Bool} (equiv : IsEquivalence eq) {T E : Type 0} (z : V) (es fs : List (K × V)) (k : K) (v : V) (r : Result T E) → IsReduced cmp eq (record { default = z; entries = es }) → OnOk r (IsSame cmp eq (set cmp eq (record { default = z; entries = es }) k v) (record { default = z; entries = fs })) → OnErr r (fs ≡ es) → IsReduced cmp eq (record { default = z; entries = fs })
reduced_after o equiv z es fs k v (Ok t) reduced same refused = IsReduced-is_set o equiv z es fs k v reduced same
reduced_after o equiv z es fs k v (Err e) reduced same refused = rw refused reduced
