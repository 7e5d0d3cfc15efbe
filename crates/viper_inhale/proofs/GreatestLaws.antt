-- What a state keeps of its own is no greater reference than its own heap and the new one have.
use Rattle.std.proofs.Common.{ℕ, List, [], ◌∷◌}
use Rattle.std.proofs.lemmas.List.Elements.{All-cons, All-head, All-tail}
use Rattle.std.specs.Ordering.{nat_cmp}
use Rattle.sparse.specs.Map.{Map, get, set, keys}
use Rattle.vb_value.specs.Fraction.{Fraction}
use Rattle.vb_value.specs.Value.{value_eq}
use Rattle.vb_value.specs.declared.values.Value.{Value}
use Rattle.viper_state.specs.Greatest.{IsAtMost, AreWithin}
use Rattle.viper_state.specs.Within.{HasValues}
use Rattle.viper_state.proofs.EachLaws.{get_has, set_has_values}
use Rattle.viper_meaning.specs.Forgotten.{kept_at}
use Rattle.viper_inhale.specs.Kept.{kept_maps}

module _ (g : ℕ) where
  values_kept : (new own : Map ℕ Value) (ks : List ℕ) → HasValues (IsAtMost g) new → HasValues (IsAtMost g) own → HasValues (IsAtMost g) (kept_at nat_cmp value_eq new own ks)
  values_kept new own [] n o = n
  values_kept new own (k ∷ ks) n o = values_kept (set nat_cmp value_eq new k (get nat_cmp own k)) own ks (set_has_values nat_cmp value_eq new k (get nat_cmp own k) n (get_has nat_cmp own k o)) o

  pub within_kept : (news owns : List (Map ℕ Value)) (helds : List (Map ℕ Fraction)) → AreWithin g news → AreWithin g owns → AreWithin g (kept_maps nat_cmp value_eq news owns helds)
  within_kept [] owns helds n o = n
  within_kept (x ∷ news) [] helds n o = n
  within_kept (x ∷ news) (y ∷ owns) [] n o = n
  within_kept (x ∷ news) (y ∷ owns) (z ∷ helds) n o =
      All-cons (HasValues (IsAtMost g)) (kept_at nat_cmp value_eq x y (keys z)) (kept_maps nat_cmp value_eq news owns helds)
      (values_kept x y (keys z) (All-head (HasValues (IsAtMost g)) x news n) (All-head (HasValues (IsAtMost g)) y owns o))
      (within_kept news owns helds (All-tail (HasValues (IsAtMost g)) x news n) (All-tail (HasValues (IsAtMost g)) y owns o))
