-- What the meaning forgets, map by map: what is chosen where nothing is held, and the own values elsewhere.
use Rattle.std.specs.Bool.{⊤}
use Rattle.std.proofs.Common.{◌≡◌, ℕ, suc, Bool as Truth, true, false, List, [], ◌∷◌, Option, Some, None, Contains, slice_get, if◌then◌else◌, refl, sym, ap, subst, ◌∙◌, arith}
use Rattle.std.specs.List.{AllZip}
use Rattle.std.specs.Option.{option_map}
use Rattle.std.specs.Ordering.{nat_cmp}
use Rattle.std.specs.declared.cmp.Ordering.{Ordering}
use Rattle.std.proofs.lemmas.Option.{same_Some}
use Rattle.std.proofs.lemmas.List.Elements.{Contains-append_right}
use Rattle.viper_meaning.proofs.PartLaws.{is_none_itself}
use Rattle.sparse.specs.Map.{Map, get, set, keys, IsReduced}
use Rattle.sparse.specs.Meaning.{IsExact}
use Rattle.sparse.proofs.MapLaws.{set-get, get-key}
use Rattle.vb_value.specs.Content.{Content}
use Rattle.vb_value.specs.Fraction as fraction
use Rattle.vb_value.specs.Fraction.{Fraction, none, is_none}
use Rattle.vb_value.specs.Key.{key_cmp}
use Rattle.vb_value.specs.Layout.{Layout}
use Rattle.vb_value.specs.Value.{fraction_eq}
use Rattle.vb_value.specs.declared.values.Ty.{Ty}
use Rattle.vb_value.specs.declared.values.Value.{Value}
use Rattle.viper_state.specs.Choice as choice
use Rattle.viper_state.specs.Choice.{Choice}
use Rattle.viper_state.specs.Event as event
use Rattle.viper_state.specs.Fits.{FitsHeap, FitsMask, FitsContents, FitsAmounts, FitsMemo, FitsState, FitsEvent}
use Rattle.viper_state.specs.State.{Key, Memo, State}
use Rattle.viper_state.proofs.FitsLaws.{mask_found, amount_found}
use Rattle.viper_state.proofs.FitsTestLaws.{Decides-fits_memo}
use Rattle.viper_state.proofs.MapLaws.{exact_values, exact_masks, exact_contents, exact_amounts}
use Rattle.viper_meaning.specs.Forgotten.{kept_at, forgotten_maps, forgotten, with_memo, memo_in, forget}
use Rattle.viper_meaning.specs.Kept as kept
use Rattle.viper_meaning.specs.KeptRuns.{KeepsRun, at_end, later}
use Rattle.viper_meaning.specs.Run.{given, goes, noting}
use Rattle.viper_meaning.proofs.ForgottenLaws.{forget_fits, value_left, content_left}

-- ---- a memo that fits is taken

pub taken_memo : (l : Layout) (m : Memo) → FitsMemo l m → memo_in l (choice.Filled m) ≡ Some m
taken_memo l m h = ap (λ (b : Truth). if b then Some m else None) ((Decides-fits_memo l m).1 h)

-- and leaves a state that fits
pub forgotten_fits : (l : Layout) (s : State) (m : Memo) → FitsState l s → FitsMemo l m → FitsState l (with_memo s (forgotten s m))
forgotten_fits l s m h fits = from_run (forget_fits {C = λ c. ⊤} l s h)
  where
    go : (o : Option Memo) → o ≡ Some m → KeepsRun (FitsEvent l) (λ (c : Choice). ⊤) (FitsState l) (given o (λ m. noting (event.Whole (forgotten s m)) (goes (with_memo s (forgotten s m))))) → FitsState l (with_memo s (forgotten s m))
    go (Some n) e (at_end (kept.value all p)) = subst (λ m. FitsState l (with_memo s (forgotten s m))) (same_Some _ _ e) p
    go None e k = absurd (cc)

    from_run : KeepsRun (FitsEvent l) (λ (c : Choice). ⊤) (FitsState l) (forget l s) → FitsState l (with_memo s (forgotten s m))
    from_run (later all k) = go (memo_in l (choice.Filled m)) (taken_memo l m fits) (k (choice.Filled m) tt)

-- ---- the own values stay where something is held

some_held : (q : Fraction) → fraction.IsReduced q → (q ≡ none → ⊥) → is_none q ≡ false
some_held q h some = by_test (is_none q) refl
  where
    by_test : (t : Truth) → is_none q ≡ t → t ≡ false
    by_test true e = absurd (some (is_none_itself q h e))
    by_test false e = refl

pub own_value : (l : Layout) (s : State) (m : Memo) → FitsState l s → FitsMemo l m → (f : ℕ) (u : Ty) → slice_get l.fields f ≡ Some u → (own new : Map ℕ Value) (held : Map ℕ Fraction) → slice_get s.heap f ≡ Some own →
    slice_get (forgotten s m).heap f ≡ Some new → slice_get s.mask f ≡ Some held → (r : ℕ) → (get nat_cmp held r ≡ none → ⊥) → get nat_cmp own r ≡ get nat_cmp new r
own_value l s m h fits f u there own new held is_own is_new is_held r some =
    let mask = ap (option_map (λ (x : Map ℕ Fraction). get nat_cmp x r)) is_held in
    let found = mask_found h f r u there in
    let same : get nat_cmp held r ≡ found.0 = same_Some _ _ (sym mask ∙ found.1.0) in
    let left = value_left l s m h fits f r (get nat_cmp held r) mask in
    let no = some_held (get nat_cmp held r) (subst fraction.IsReduced (sym same) found.1.1) some in
    same_Some _ _ (sym (sym (ap (option_map (λ (x : Map ℕ Value). get nat_cmp x r)) is_new) ∙ left ∙ ap (λ (b : Truth). if b then option_map (λ (x : Map ℕ Value). get nat_cmp x r) (slice_get m.heap f) else option_map (λ (x : Map ℕ Value). get nat_cmp x r) (slice_get s.heap f)) no
    ∙ ap (option_map (λ (x : Map ℕ Value). get nat_cmp x r)) is_own))

pub own_content : (l : Layout) (s : State) (m : Memo) → FitsState l s → FitsMemo l m → (p : ℕ) (us : List Ty) → slice_get l.keys p ≡ Some us → (own new : Map Key Content) (held : Map Key Fraction) → slice_get s.content p ≡ Some own →
    slice_get (forgotten s m).content p ≡ Some new → slice_get s.amount p ≡ Some held → (k : Key) → (get key_cmp held k ≡ none → ⊥) → get key_cmp own k ≡ get key_cmp new k
own_content l s m h fits p us there own new held is_own is_new is_held k some =
    let amount = ap (option_map (λ (x : Map Key Fraction). get key_cmp x k)) is_held in
    let found = amount_found h p k us there in
    let same : get key_cmp held k ≡ found.0 = same_Some _ _ (sym amount ∙ found.1.0) in
    let left = content_left l s m h fits p k (get key_cmp held k) amount in
    let no = some_held (get key_cmp held k) (subst fraction.IsReduced (sym same) found.1.1) some in
    same_Some _ _ (sym (sym (ap (option_map (λ (x : Map Key Content). get key_cmp x k)) is_new) ∙ left ∙ ap (λ (b : Truth). if b then option_map (λ (x : Map Key Content). get key_cmp x k) (slice_get m.content p) else option_map (λ (x : Map Key Content). get key_cmp x k) (slice_get s.content p)) no
    ∙ ap (option_map (λ (x : Map Key Content). get key_cmp x k)) is_own))

-- ---- a map that has them is not changed by forgetting

module _ {K V : Type 0} {cmp : K → K → Ordering} {eq : V → V → Truth} (x : IsExact cmp eq) (y : IsExact cmp fraction_eq) where
  kept_same : (new own : Map K V) (ks : List K) → IsReduced cmp eq new → ((k : K) → Contains ks k → get cmp own k ≡ get cmp new k) → kept_at cmp eq new own ks ≡ new
  kept_same new own [] tidy h = refl
  kept_same new own (k ∷ ks) tidy h =
      let same : set cmp eq new k (get cmp own k) ≡ new = ap (set cmp eq new k) (h k (0, omega arith, refl)) ∙ set-get x new tidy k in
      ap (λ m. kept_at cmp eq m own ks) same ∙ kept_same new own ks tidy (λ q c. h q (Contains-append_right (k ∷ []) ks q c))

  pub maps_same : {U : Type 0} (R : U → Map K V → Type 0) (H : U → Map K Fraction → Type 0) → ((u : U) (m : Map K V) → R u m → IsReduced cmp eq m) → ((u : U) (q : Map K Fraction) → H u q → (IsReduced cmp fraction_eq q) × (q.default ≡ none)) →
      (us : List U) (news owns : List (Map K V)) (helds : List (Map K Fraction)) → AllZip R us news → AllZip R us owns → AllZip H us helds →
      ((i : ℕ) (u : U) → slice_get us i ≡ Some u → (new own : Map K V) (held : Map K Fraction) → slice_get news i ≡ Some new → slice_get owns i ≡ Some own → slice_get helds i ≡ Some held → (k : K) → (get cmp held k ≡ none → ⊥) → get cmp own k ≡ get cmp new k) →
      forgotten_maps cmp eq news owns helds ≡ news
  maps_same R H tidy reduced [] [] owns helds f g h own = refl
  maps_same R H tidy reduced [] (a ∷ news) owns helds f g h own = absurd f
  maps_same R H tidy reduced (u ∷ us) [] owns helds f g h own = absurd f
  maps_same R H tidy reduced (u ∷ us) (a ∷ news) [] helds f g h own = absurd g
  maps_same R H tidy reduced (u ∷ us) (a ∷ news) (o ∷ owns) [] f g h own = absurd h
  maps_same R H tidy reduced (u ∷ us) (a ∷ news) (o ∷ owns) (q ∷ helds) f g h own =
      let is_held = reduced u q h.0 in
      let first : kept_at cmp eq a o (keys q) ≡ a = kept_same a o (keys q) (tidy u a f.0) (λ k c. own 0 u refl a o q refl refl refl k (λ e. get-key y q is_held.0 k c (e ∙ sym is_held.1))) in
      let rest = maps_same R H tidy reduced us news owns helds f.1 g.1 h.1 (λ i v there new own_map held is_new is_own is_held k some. own (suc i) v there new own_map held is_new is_own is_held k some) in
      (λ j. first j ∷ rest j)

-- so what agrees with the state where something is held is what is left
pub forgotten_same : (l : Layout) (s : State) (m : Memo) → FitsState l s → FitsMemo l m →
    ((f : ℕ) (u : Ty) → slice_get l.fields f ≡ Some u → (new own : Map ℕ Value) (held : Map ℕ Fraction) → slice_get m.heap f ≡ Some new → slice_get s.heap f ≡ Some own → slice_get s.mask f ≡ Some held → (r : ℕ) → (get nat_cmp held r ≡ none → ⊥) →
    get nat_cmp own r ≡ get nat_cmp new r) →
    ((p : ℕ) (us : List Ty) → slice_get l.keys p ≡ Some us → (new own : Map Key Content) (held : Map Key Fraction) → slice_get m.content p ≡ Some new → slice_get s.content p ≡ Some own → slice_get s.amount p ≡ Some held → (k : Key) →
    (get key_cmp held k ≡ none → ⊥) → get key_cmp own k ≡ get key_cmp new k) → forgotten s m ≡ m
forgotten_same l s m h fits heaps contents =
    let one = maps_same exact_values exact_masks FitsHeap FitsMask (λ u m h. h.reduced) (λ u q h. (h.reduced, h.default)) l.fields m.heap s.heap s.mask fits.heap h.heap h.mask heaps in
    let two = maps_same exact_contents exact_amounts FitsContents FitsAmounts (λ u m h. h.reduced) (λ u q h. (h.reduced, h.default)) l.keys m.content s.content s.amount fits.content h.content h.amount contents in
    (λ j. record { heap = one j; content = two j })
