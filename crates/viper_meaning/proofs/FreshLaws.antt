-- The test of a new reference tells just where a method knows nothing of it.
use Rattle.std.proofs.Common.{◌≡◌, ◌≢◌, refl, sym, ap, ◌∙◌, subst, ℕ, zero, suc, ◌==◌, Bool, true, false, not, ◌||◌, Option, Some, None, List, [], ◌∷◌, pos, All, Contains, slice_get, get_or}
use Rattle.std.proofs.lemmas.Bool.{true≢false, or_parts, not-true, or_from}
use Rattle.std.proofs.lemmas.Bool.Decides.{Decides-and, Decides-not, Decides-eqb}
use Rattle.std.proofs.lemmas.List.Elements.{All-nil, All-cons, All-head, All-tail, All-contains, All-contains_itself}
use Rattle.std.proofs.lemmas.List.Folds.{list_any_none}
use Rattle.std.specs.List.{list_any}
use Rattle.std.specs.Ordering.{nat_cmp}
use Rattle.std.specs.Bool.{Decides}
use Rattle.lemmas.proofs.Tests.{true_from_not as negated, refuted}
use Rattle.sparse.specs.Map.{Map, get, keys}
use Rattle.sparse.proofs.MapLaws.{Contains-keys, get-key, get-All}
use Rattle.vb_value.specs.Fraction.{Fraction, IsReduced, is_none}
use Rattle.vb_value.proofs.FractionLaws.{IsReduced-whole}
use Rattle.vb_value.specs.Layout.{Layout}
use Rattle.vb_value.specs.Value.{value_eq}
use Rattle.vb_value.specs.declared.values.Ty.{Ty}
use Rattle.vb_value.specs.declared.values.Value.{Value}
use Rattle.vb_value.specs.declared.values.Value.TheVariants as v
use Rattle.viper_state.specs.Fits.{FitsMask, FitsState}
use Rattle.viper_state.specs.State.{found_at}
use Rattle.viper_state.proofs.MapLaws.{exact_values, exact_masks}
use Rattle.viper_state.proofs.Paired.{All-paired}
use Rattle.viper_meaning.proofs.PartLaws.{is_none_itself}
use Rattle.viper_meaning.specs.Fresh.{KnowsNothingOf}
use Rattle.viper_meaning.specs.Statements.{Configuration, is_named, is_held, is_stored, is_fresh}

-- ---- tests

not_both : {P : Type 0} (b : Bool) → Decides b P → b ≡ false → P → ⊥
not_both b d e h = true≢false (sym (d.1 h) ∙ e)

from_none : (b : Bool) → (b || false) ≡ true → b ≡ true
from_none true h = refl
from_none false h = h

to_none : (b : Bool) → b ≡ true → (b || false) ≡ true
to_none true h = refl
to_none false h = h

or_right : (b c : Bool) → (b || c) ≡ ((b || false) || c)
or_right true c = refl
or_right false c = refl

all_false : {X : Type 0} (p : X → Bool) (xs : List X) → list_any p xs ≡ false → All (λ x. p x ≡ false) xs
all_false p [] h = All-nil (λ x. p x ≡ false)
all_false p (x ∷ xs) h = let both = or_parts (p x) (list_any p xs) h in All-cons (λ x. p x ≡ false) x xs both.0 (all_false p xs both.1)

Decides-none : {X : Type 0} (p : X → Bool) (P : X → Type 0) → ((x : X) → Decides (p x) (P x)) → (xs : List X) → Decides (not (list_any p xs)) ((x : X) → Contains xs x → P x → ⊥)
Decides-none p P each xs = (
  λ e x c. not_both (p x) (each x) (All-contains (λ x. p x ≡ false) xs x (all_false p xs (not-true (list_any p xs) e)) c),
  λ g. ap not (list_any_none p xs (λ k d within. refuted (p _) (each _) (g _ (All-contains_itself xs k d within)))),
)

-- ---- variables

module _ (r : ℕ) (store : List Value) where
  some_is : (w : Value) → Decides (value_eq w (v.Ref r) || false) (Some w ≡ Some (v.Ref r))
  some_is w = (
    λ h. ap Some ((exact_values.values w (v.Ref r)).0 (from_none (value_eq w (v.Ref r)) h)),
    λ e. let same : w ≡ v.Ref r = cc in to_none (value_eq w (v.Ref r)) ((exact_values.values w (v.Ref r)).1 same),
  )

  none_is : Decides false (None ≡ Some (v.Ref r))
  none_is = (λ h. cc, λ h. cc)

  one_named : (x : ℕ) (o : Option Value) → slice_get store x ≡ o → Decides (is_named r store (x ∷ [])) (slice_get store x ≡ Some (v.Ref r))
  one_named x (Some w) e = rw (e) (some_is w)
  one_named x None e = rw (e) none_is

  each_named : (xs : List ℕ) → is_named r store xs ≡ list_any (λ x. is_named r store (x ∷ [])) xs
  each_named [] = refl
  each_named (x ∷ xs) = or_right _ (is_named r store xs) ∙ ap (λ b. is_named r store (x ∷ []) || b) (each_named xs)

  pub Decides-named : (xs : List ℕ) → Decides (not (is_named r store xs)) ((x : ℕ) → Contains xs x → slice_get store x ≢ Some (v.Ref r))
  Decides-named xs = subst (λ b. Decides (not b) ((x : ℕ) → Contains xs x → slice_get store x ≢ Some (v.Ref r))) (sym (each_named xs))
      (Decides-none (λ x. is_named r store (x ∷ [])) (λ x. slice_get store x ≡ Some (v.Ref r)) (λ x. one_named x (slice_get store x) refl) xs)

-- ---- masks

module _ (r : ℕ) where
  nothing_held : (masks : List (Map ℕ Fraction)) → is_held r masks ≡ false → (f : ℕ) (q : Fraction) → found_at nat_cmp masks f r ≡ Some q → is_none q ≡ true
  nothing_held [] h f q e = cc
  nothing_held (m ∷ masks) h zero q e =
      let same : get nat_cmp m r ≡ q = cc in
      subst (λ x. is_none x ≡ true) same (negated (is_none (get nat_cmp m r)) (or_parts (not (is_none (get nat_cmp m r))) (is_held r masks) h).0)
  nothing_held (m ∷ masks) h (suc f) q e = nothing_held masks (or_parts (not (is_none (get nat_cmp m r))) (is_held r masks) h).1 f q e

  none_held : (masks : List (Map ℕ Fraction)) → ((f : ℕ) (q : Fraction) → found_at nat_cmp masks f r ≡ Some q → is_none q ≡ true) → is_held r masks ≡ false
  none_held [] g = refl
  none_held (m ∷ masks) g = or_from (not (is_none (get nat_cmp m r))) (is_held r masks) (ap not (g 0 (get nat_cmp m r) refl)) (none_held masks (λ f q e. g (suc f) q e))

  Decides-held : (masks : List (Map ℕ Fraction)) → Decides (not (is_held r masks)) ((f : ℕ) (q : Fraction) → found_at nat_cmp masks f r ≡ Some q → is_none q ≡ true)
  Decides-held masks = (λ e. nothing_held masks (not-true (is_held r masks) e), λ g. ap not (none_held masks g))

-- ---- places

-- a mask that fits: where it is not none, the reference is a key
pub record IsMask (m : Map ℕ Fraction) : Type 0 where
  pub key : (k : ℕ) → is_none (get nat_cmp m k) ≡ false → Contains (keys m) k
  pub held : (k : ℕ) → Contains (keys m) k → is_none (get nat_cmp m k) ≡ false

mask_is : (u : Ty) (m : Map ℕ Fraction) → FitsMask u m → IsMask m
mask_is u m h = record {
  key = λ k e. Contains-keys exact_masks m h.reduced k (λ same. true≢false (sym (ap is_none (same ∙ h.default)) ∙ e));
  held = λ k c. none_not u m h k c (is_none (get nat_cmp m k)) refl;
}
  where
    none_not : (u : Ty) (m : Map ℕ Fraction) → FitsMask u m → (k : ℕ) → Contains (keys m) k → (b : Bool) → is_none (get nat_cmp m k) ≡ b → b ≡ false
    none_not u m h k c true e =
        let reduced = get-All nat_cmp IsReduced m k (subst IsReduced (sym h.default) (IsReduced-whole (pos 0))) h.values in
        absurd (get-key exact_masks m h.reduced k c (is_none_itself (get nat_cmp m k) reduced e ∙ sym h.default))
    none_not u m h k c false e = refl

module _ (r : ℕ) where
  at_key : (heap : Map ℕ Value) (k : ℕ) → Decides (value_eq (get nat_cmp heap k) (v.Ref r)) (get nat_cmp heap k ≡ v.Ref r)
  at_key heap k = exact_values.values (get nat_cmp heap k) (v.Ref r)

  nothing_stored : (heaps : List (Map ℕ Value)) (masks : List (Map ℕ Fraction)) → All IsMask masks → is_stored r heaps masks ≡ false → (f k : ℕ) (q : Fraction) → found_at nat_cmp masks f k ≡ Some q → is_none q ≡ false →
      found_at nat_cmp heaps f k ≢ Some (v.Ref r)
  nothing_stored [] masks a h f k q e n i = cc
  nothing_stored (heap ∷ heaps) [] a h f k q e n i = cc
  nothing_stored (heap ∷ heaps) (m ∷ masks) a h zero k q e n i =
      let same : q ≡ get nat_cmp m k = cc in
      let here : get nat_cmp heap k ≡ v.Ref r = cc in
      let none = all_false (λ k. value_eq (get nat_cmp heap k) (v.Ref r)) (keys m) (or_parts (list_any (λ k. value_eq (get nat_cmp heap k) (v.Ref r)) (keys m)) (is_stored r heaps masks) h).0 in
      not_both (value_eq (get nat_cmp heap k) (v.Ref r)) (at_key heap k) (All-contains (λ k. value_eq (get nat_cmp heap k) (v.Ref r) ≡ false) (keys m) k none ((All-head IsMask m masks a).key k (ap is_none (sym same) ∙ n))) here
  nothing_stored (heap ∷ heaps) (m ∷ masks) a h (suc f) k q e n i =
      nothing_stored heaps masks (All-tail IsMask m masks a) (or_parts (list_any (λ k. value_eq (get nat_cmp heap k) (v.Ref r)) (keys m)) (is_stored r heaps masks) h).1 f k q e n i

  none_stored : (heaps : List (Map ℕ Value)) (masks : List (Map ℕ Fraction)) → All IsMask masks → ((f k : ℕ) (q : Fraction) → found_at nat_cmp masks f k ≡ Some q → is_none q ≡ false → found_at nat_cmp heaps f k ≢ Some (v.Ref r)) →
      is_stored r heaps masks ≡ false
  none_stored [] masks a g = refl
  none_stored (heap ∷ heaps) [] a g = refl
  none_stored (heap ∷ heaps) (m ∷ masks) a g =
      or_from (list_any (λ k. value_eq (get nat_cmp heap k) (v.Ref r)) (keys m)) (is_stored r heaps masks)
      (list_any_none (λ k. value_eq (get nat_cmp heap k) (v.Ref r)) (keys m) (λ i d within.
      let k : ℕ = get_or (keys m) i d in
      refuted (value_eq (get nat_cmp heap k) (v.Ref r)) (at_key heap k) (λ same. g 0 k (get nat_cmp m k) refl ((All-head IsMask m masks a).held k (All-contains_itself (keys m) i d within)) (ap Some same))))
      (none_stored heaps masks (All-tail IsMask m masks a) (λ f k q e n. g (suc f) k q e n))

  Decides-stored : (heaps : List (Map ℕ Value)) (masks : List (Map ℕ Fraction)) → All IsMask masks →
      Decides (not (is_stored r heaps masks)) ((f k : ℕ) (q : Fraction) → found_at nat_cmp masks f k ≡ Some q → is_none q ≡ false → found_at nat_cmp heaps f k ≢ Some (v.Ref r))
  Decides-stored heaps masks a = (λ e. nothing_stored heaps masks a (not-true (is_stored r heaps masks) e), λ g. ap not (none_stored heaps masks a g))

-- ---- all together

pub Decides-fresh : (l : Layout) (r : ℕ) (refs : List ℕ) (c : Configuration) → FitsState l c.state → Decides (is_fresh r refs c) (KnowsNothingOf r refs c)
Decides-fresh l r refs c h =
    let masks = All-paired FitsMask IsMask mask_is l.fields c.state.mask h.mask in
    let tests = Decides-and (not (r == 0)) _ (Decides-not (r == 0) (Decides-eqb r 0)) (Decides-and (not (is_named r c.store refs)) _ (Decides-named r c.store refs)
    (Decides-and (not (is_held r c.state.mask)) _ (Decides-held r c.state.mask) (Decides-stored r c.state.heap c.state.mask masks))) in (
      λ e. let all = tests.0 e in record { not_null = all.0; not_named = all.1.0; not_held = all.1.1.0; not_stored = all.1.1.1 },
      λ k. tests.1 (k.not_null, (k.not_named, (k.not_held, k.not_stored))),
    )
