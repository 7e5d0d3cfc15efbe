-- No permission is negative where none is that is held of a resource.
use Rattle.std.proofs.Common.{◌≡◌, refl, sym, ap, ◌∙◌, subst, ℕ, zero, suc, Some, List, [], ◌∷◌, All, slice_get}
use Rattle.std.proofs.lemmas.List.Elements.{All-nil, All-cons, All-head, All-tail}
use Rattle.std.specs.Map.{keys_of, values_of}
use Rattle.std.specs.Ordering.{nat_cmp}
use Rattle.std.specs.declared.cmp.Ordering.{Ordering}
use Rattle.sparse.specs.Map.{Map, get, values, IsReduced}
use Rattle.sparse.specs.Meaning.{IsExact}
use Rattle.sparse.proofs.MapLaws.{get-keys}
use Rattle.vb_value.specs.Fraction.{Fraction}
use Rattle.vb_value.specs.Key.{key_cmp}
use Rattle.vb_value.specs.Value.{fraction_eq}
use Rattle.viper_state.specs.State.{State, found_at}
use Rattle.viper_state.specs.Within.{HasValues, IsNotNegative, IsNonnegative}
use Rattle.viper_state.proofs.EachLaws.{none_not_negative}
use Rattle.viper_state.proofs.MapLaws.{exact_masks, exact_amounts}
use Rattle.viper_meaning.specs.Resource.{Resource, Place, Instance, held_at}
use Rattle.viper_meaning.proofs.HeldLaws.{IsHeld}

module _ {K V : Type 0} where
  key_there : (es : List (K × V)) (i : ℕ) (e : K × V) → slice_get es i ≡ Some e → slice_get (keys_of es) i ≡ Some e.0
  key_there [] i e h = cc
  key_there (d ∷ es) zero e h =
      let same : d ≡ e = cc in
      ap (λ z. Some z.0) same
  key_there (d ∷ es) (suc i) e h = key_there es i e h

  All-values : (P : V → Type 0) (es : List (K × V)) → ((i : ℕ) (e : K × V) → slice_get es i ≡ Some e → P e.1) → All P (values_of es)
  All-values P [] h = All-nil P
  All-values P (e ∷ es) h = All-cons P e.1 (values_of es) (h 0 e refl) (All-values P es (λ i d g. h (suc i) d g))

module _ {K : Type 0} {cmp : K → K → Ordering} (x : IsExact cmp fraction_eq) where
  -- what holds of the value at each key holds of each value that is written
  written_values : (m : Map K Fraction) → IsReduced cmp fraction_eq m → ((k : K) → IsNotNegative (get cmp m k)) → All IsNotNegative (values m)
  written_values m r h = All-values IsNotNegative m.entries (λ i e g.
      let there : Some e ≡ Some (e.0, get cmp m e.0) = sym g ∙ get-keys x.total m r i e.0 (key_there m.entries i e g) in
      let same : e ≡ (e.0, get cmp m e.0) = cc in
      subst IsNotNegative (sym (ap (λ z. z.1) same)) (h e.0))

  not_negative_maps : (maps : List (Map K Fraction)) → All (IsHeld cmp) maps → ((n : ℕ) (k : K) (q : Fraction) → found_at cmp maps n k ≡ Some q → IsNotNegative q) → All (HasValues IsNotNegative) maps
  not_negative_maps [] h g = All-nil (HasValues IsNotNegative)
  not_negative_maps (m ∷ ms) h g =
      let one = All-head (IsHeld cmp) m ms h in
      All-cons (HasValues IsNotNegative) m ms (record { default = subst IsNotNegative (sym one.default) none_not_negative; others = written_values m one.reduced (λ k. g 0 k (get cmp m k) refl) })
      (not_negative_maps ms (All-tail (IsHeld cmp) m ms h) (λ n k q e. g (suc n) k q e))

pub nonnegative_from_held : (s : State) → All (IsHeld nat_cmp) s.mask → All (IsHeld key_cmp) s.amount → ((x : Resource) (q : Fraction) → held_at s x ≡ Some q → IsNotNegative q) → IsNonnegative s
nonnegative_from_held s mask amount h = record {
  mask = not_negative_maps exact_masks s.mask mask (λ n k q e. h (Place n k) q e);
  amount = not_negative_maps exact_amounts s.amount amount (λ n k q e. h (Instance n k) q e);
}
