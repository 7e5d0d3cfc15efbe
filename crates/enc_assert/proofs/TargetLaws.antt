-- What a target and the resource that it stands for are in coupled maps.
use Rattle.std.proofs.Common.{◌≡◌, ℕ, List, Some, IfSome, slice_get, slice_set, refl, ap, subst}
use Rattle.std.specs.Ordering.{nat_cmp}
use Rattle.std.proofs.lemmas.Option.{slice_get_within}
use Rattle.sparse.specs.Map.{Map, get, set, IsReduced as IsTidy}
use Rattle.vb_value.specs.Bound.{Bound}
use Rattle.vb_value.specs.Fraction.{Fraction, IsReduced, IsProperFraction}
use Rattle.vb_value.specs.Key.{key_cmp}
use Rattle.vb_value.specs.Layout.{Layout}
use Rattle.vb_value.specs.declared.values.Ty.{Ty}
use Rattle.vb_value.specs.declared.values.Value.{Value}
use Rattle.viper_core.specs.Typing.{Context}
use Rattle.viper_state.specs.Fits.{FitsKey}
use Rattle.viper_state.specs.State.{Key, State}
use Rattle.viper_state.specs.Within.{IsNotNegative}
use Rattle.viper_state.proofs.EachLaws.{mask_has, amount_has, mask_not_negative, amount_not_negative}
use Rattle.viper_state.proofs.MapLaws.{exact_masks, exact_amounts}
use Rattle.viper_meaning.specs.Places as places
use Rattle.viper_meaning.specs.Resource as resource
use Rattle.viper_meaning.specs.Resource.{Resource, held_at, with_held}
use Rattle.boogie_tree.specs.Expr as t
use Rattle.boogie_tree.specs.Value as bv
use Rattle.boogie_tree.specs.Value.{BScalar, Many, Real, same_scalar}
use Rattle.boogie_meaning.specs.Ends as end
use Rattle.boogie_meaning.specs.Quantified.{bkey}
use Rattle.moves.specs.Maps.{place_key, instance_key}
use Rattle.enc_expr.specs.Place.{Maps, number, Mask, Amount, IsHeld, AreApart}
use Rattle.enc_expr.specs.Coupling.{Env, HasMaps, IsSound, mask_kind, amount_kind}
use Rattle.enc_expr.specs.Alike.{HasAtom, AreLocated}
use Rattle.enc_expr.proofs.MapLaws.{found_in_map, mask_written, amount_written, index_key}
use Rattle.enc_expr.proofs.FillLaws.{changed_same, reference_key}
use Rattle.enc_assert.specs.Target as target
use Rattle.enc_assert.specs.Target.{AccessTarget, held_in, key_of}
use Rattle.enc_assert.specs.Held.{IsHeldLocalOf}

-- the target names the resource
pub data Aims (layout : Layout) (n : ℕ) (E : Env) : AccessTarget → Resource → Type 0 where
  field : {f r : ℕ} {u : Ty} {x : t.BExpr} → slice_get layout.fields f ≡ Some u → HasAtom n E x (bv.Ref r) → Aims layout n E (target.Field f x) (resource.Place f r)
  instance : {p : ℕ} {us : List Ty} {key : Key} {is : List ℕ} {vs : List Value} → slice_get layout.keys p ≡ Some us → FitsKey us key → AreLocated n E is vs → Some key ≡ places.key_of vs →
      Aims layout n E (target.Instance p is) (resource.Instance p key)

-- its map holds what is held of the resource, which can be written there
pub record IsHere (b : Bound) (layout : Layout) (m : ℕ) (l : Maps) (s : State) (E : Env) (y : AccessTarget) (x : Resource) : Type 0 where
  pub image : Map Key BScalar
  pub there : slice_get E (held_in l y) ≡ Some (Many image)
  pub tidy : IsTidy key_cmp same_scalar image
  pub index : Key
  pub index_is : bkey b (key_of y) E ≡ end.Is index
  pub held : Fraction
  pub is_held : held_at s x ≡ Some held
  pub value : get key_cmp image index ≡ Real held
  pub proper : IsProperFraction b held
  pub sign : IsNotNegative held
  pub local : IsHeldLocalOf layout l (held_in l y)
  pub unchanged : with_held s x held ≡ s
  pub written : (q : Fraction) → IsReduced q → HasMaps layout m l (with_held s x q) (slice_set E (held_in l y) (Many (set key_cmp same_scalar image index (Real q))))

pub aimed : (b : Bound) (c : Context) (n m : ℕ) (l : Maps) (s : State) (E : Env) {y : AccessTarget} {x : Resource} {O : ℕ → Type 0} → AreApart IsHeld O c.program.layout l → HasMaps c.program.layout m l s E → IsSound b c.program.layout s → Aims c.program.layout n E y x →
    IsHere b c.program.layout m l s E y x
aimed b c n m l s E apart maps sound (field {f} {r} {u} {x} there ref) =
    let old = maps.mask f u there in
    let is_held = found_in_map mask_kind m (number l.mask f) s.mask f E r old in
    record {
      image = old.image;
      there = old.here;
      tidy = old.typed.reduced;
      index = place_key r;
      index_is = reference_key b n E x r ref;
      held = get nat_cmp old.m r;
      is_held = is_held;
      value = old.same r tt;
      proper = subst (λ o. IfSome o (IsProperFraction b)) is_held (mask_has sound.proper f r);
      sign = subst (λ o. IfSome o IsNotNegative) is_held (mask_not_negative sound.nonnegative f r);
      local = record { spot = Mask f; kind = tt; exists = slice_get_within c.program.layout.fields f u there; there = refl };
      unchanged = ap (λ (h : List (Map ℕ Fraction)). record s { mask = h }) (changed_same exact_masks s.mask f r old.m old.there old.tidy);
      written = λ q reduced. mask_written c m l s E apart maps f u r q there tt reduced;
    }
aimed b c n m l s E apart maps sound (instance {p} {us} {key} {is} {vs} there fits located is_key) =
    let old = maps.amount p us there in
    let is_held = found_in_map (amount_kind us) m (number l.amount p) s.amount p E key old in
    record {
      image = old.image;
      there = old.here;
      tidy = old.typed.reduced;
      index = instance_key key;
      index_is = index_key b n E is vs key located is_key;
      held = get key_cmp old.m key;
      is_held = is_held;
      value = old.same key fits;
      proper = subst (λ o. IfSome o (IsProperFraction b)) is_held (amount_has sound.proper p key);
      sign = subst (λ o. IfSome o IsNotNegative) is_held (amount_not_negative sound.nonnegative p key);
      local = record { spot = Amount p; kind = tt; exists = slice_get_within c.program.layout.keys p us there; there = refl };
      unchanged = ap (λ (h : List (Map Key Fraction)). record s { amount = h }) (changed_same exact_amounts s.amount p key old.m old.there old.tidy);
      written = λ q reduced. amount_written c m l s E apart maps p us key q there tt fits reduced;
    }
