-- What forgetting leaves: where nothing is held the new heap and contents, and elsewhere the state's own.
use Rattle.std.proofs.Common.{◌≡◌, ◌≢◌, ◌⊎◌, ⊎_elim, arith, inl, inr, refl, sym, ap, subst, ◌∙◌, ℕ, zero, suc, Bool, true, false, Some, None, IfSome, All, List, [], ◌∷◌, Contains, if◌then◌else◌}
use Rattle.std.proofs.lemmas.Bool.{true≢false}
use Rattle.std.proofs.lemmas.List.Elements.{All-nil, All-cons, All-head, All-tail, Contains-append_right}
use Rattle.std.proofs.lemmas.Map.Made.{Contains-tail}
use Rattle.std.specs.Cmp.{IsTotalOrder}
use Rattle.std.specs.List.{AllZip}
use Rattle.std.specs.Ordering.{nat_cmp}
use Rattle.std.specs.declared.cmp.Ordering.{Ordering}
use Rattle.std.specs.declared.cmp.Ordering.TheVariants.{Less, Equal, Greater}
use Rattle.std.proofs.lemmas.Cmp.{tied_itself}
use Rattle.sparse.specs.Map as map
use Rattle.sparse.specs.Map.{Map, get, set, keys}
use Rattle.sparse.specs.Meaning.{IsExact}
use Rattle.sparse.proofs.MapLaws.{IsReduced-set, get-set_same, get-set_other, Contains-keys, get-key}
use Rattle.vb_value.specs.Content.{same_content}
use Rattle.vb_value.specs.Key.{key_cmp}
use Rattle.vb_value.specs.Fraction.{Fraction, IsReduced, is_none, none}
use Rattle.vb_value.specs.Layout.{Layout}
use Rattle.vb_value.specs.Value.{value_eq, fraction_eq}
use Rattle.vb_value.proofs.ReducedLaws.{IsReduced-none}
use Rattle.viper_state.specs.Choice as choice
use Rattle.viper_state.specs.Choice.{Choice}
use Rattle.viper_state.specs.Event as event
use Rattle.viper_state.specs.FitsTest.{fits_memo}
use Rattle.viper_state.specs.State.{Key, Memo, State, found_at, value_at, mask_at, content_at, amount_at}
use Rattle.viper_state.specs.Fits.{FitsMap, FitsKey, IsReference, FitsHeap, FitsMask, FitsContents, FitsAmounts, FitsMemo, FitsState, FitsEvent}
use Rattle.viper_state.proofs.FitsLaws.{FitsMap-set, FitsMap-get, FitsValue-default}
use Rattle.viper_state.proofs.FitsTestLaws.{Decides-fits_memo}
use Rattle.viper_state.proofs.MapLaws.{exact_values, exact_masks, exact_contents, exact_amounts}
use Rattle.viper_meaning.specs.Forgotten.{kept_at, forgotten_maps, forgotten, with_memo, memo_in, forget}
use Rattle.viper_meaning.specs.KeptRuns.{KeepsRun, at_end}
use Rattle.viper_meaning.proofs.KeptLaws.{is_kept}
use Rattle.viper_meaning.proofs.PartLaws.{is_none_itself}
use Rattle.viper_meaning.proofs.RunKeptLaws.{before_kept, taking_kept}

-- ---- one map

module _ {K V : Type 0} {cmp : K → K → Ordering} {eq : V → V → Bool} (x : IsExact cmp eq) where
  same_by : (k q : K) (o : Ordering) → cmp q k ≡ o → (k ≡ q) ⊎ (k ≢ q)
  same_by k q Equal e = inl (sym (x.keys q k e))
  same_by k q Less e = inr (λ same. let itself = tied_itself x.total q in cc)
  same_by k q Greater e = inr (λ same. let itself = tied_itself x.total q in cc)

  same_or_apart : (k q : K) → (k ≡ q) ⊎ (k ≢ q)
  same_or_apart k q = same_by k q (cmp q k) refl

  -- the first key has its own value
  module _ (new own : Map K V) (k q : K) (r : map.IsReduced cmp eq new) where
    own_here : k ≡ q → get cmp (set cmp eq new k (get cmp own k)) q ≡ get cmp own q
    own_here same = subst (λ j. get cmp (set cmp eq new k (get cmp own k)) j ≡ get cmp own j) same (get-set_same x new r k (get cmp own k))

    own_still : (k ≡ q) ⊎ (k ≢ q) → get cmp new q ≡ get cmp own q → get cmp (set cmp eq new k (get cmp own k)) q ≡ get cmp own q
    own_still (inl same) h = own_here same
    own_still (inr apart) h = get-set_other x new r k q (get cmp own k) apart ∙ h

    next_reduced : map.IsReduced cmp eq (set cmp eq new k (get cmp own k))
    next_reduced = IsReduced-set x.total new r k (get cmp own k)

  -- a value that is the own one stays so
  own_stays : (new own : Map K V) (ks : List K) (q : K) → map.IsReduced cmp eq new → get cmp new q ≡ get cmp own q → get cmp (kept_at cmp eq new own ks) q ≡ get cmp own q
  own_stays new own [] q r h = h
  own_stays new own (k ∷ ks) q r h = own_stays (set cmp eq new k (get cmp own k)) own ks q (next_reduced new own k q r) (own_still new own k q r (same_or_apart k q) h)

  -- each of the keys has the own value
  own_at : (new own : Map K V) (ks : List K) (q : K) → map.IsReduced cmp eq new → Contains ks q → get cmp (kept_at cmp eq new own ks) q ≡ get cmp own q
  own_at new own [] q r c = let below = c.1 in absurd (omega arith)
  own_at new own (k ∷ ks) q r c =
      let next = set cmp eq new k (get cmp own k) in
      let reduced = next_reduced new own k q r in
      ⊎_elim (λ same. own_stays next own ks q reduced (own_here new own k q r same)) (λ apart. own_at next own ks q reduced (Contains-tail k ks q apart c)) (same_or_apart k q)

  -- and any other key the new one
  new_at : (new own : Map K V) (ks : List K) (q : K) → map.IsReduced cmp eq new → (Contains ks q → ⊥) → get cmp (kept_at cmp eq new own ks) q ≡ get cmp new q
  new_at new own [] q r n = refl
  new_at new own (k ∷ ks) q r n =
      let next = set cmp eq new k (get cmp own k) in
      ⊎_elim (λ same. absurd (n (0, omega arith, same)))
      (λ apart. new_at next own ks q (next_reduced new own k q r) (λ c. n (Contains-append_right (k ∷ []) ks q c)) ∙ get-set_other x new r k q (get cmp own k) apart)
      (same_or_apart k q)

  -- ---- by what is held

  module _ (y : IsExact cmp fraction_eq) {P : K → Type 0} (new own : Map K V) (held : Map K Fraction) (q : K) (r : map.IsReduced cmp eq new) (fits : FitsMap cmp fraction_eq none P IsReduced held) where
    left_by : (p : Fraction) → get cmp held q ≡ p → (b : Bool) → is_none p ≡ b → Some (get cmp (kept_at cmp eq new own (keys held)) q) ≡ (if b then Some (get cmp new q) else Some (get cmp own q))
    left_by p e true f =
        let nothing : get cmp held q ≡ held.default = e ∙ is_none_itself p (subst IsReduced e (FitsMap-get y.total held q fits IsReduced-none)) f ∙ sym fits.default in
        ap Some (new_at new own (keys held) q r (λ c. get-key y held fits.reduced q c nothing))
    left_by p e false f =
        ap Some (own_at new own (keys held) q r (Contains-keys y held fits.reduced q (λ d. true≢false (ap is_none (sym (d ∙ fits.default) ∙ e) ∙ f))))

-- ---- all maps

module _ {K V U : Type 0} {cmp : K → K → Ordering} {eq : V → V → Bool} (x : IsExact cmp eq) (y : IsExact cmp fraction_eq) (P : U → K → Type 0) (R : U → Map K V → Type 0) (reduced : (u : U) (m : Map K V) → R u m → map.IsReduced cmp eq m) where
  abbrev IsHeld : U → Map K Fraction → Type 0
  IsHeld u m = FitsMap cmp fraction_eq none (P u) IsReduced m

  left_at : (us : List U) (news owns : List (Map K V)) (helds : List (Map K Fraction)) (n : ℕ) (k : K) (q : Fraction) → AllZip R us news → AllZip R us owns → AllZip IsHeld us helds → found_at cmp helds n k ≡ Some q →
      found_at cmp (forgotten_maps cmp eq news owns helds) n k ≡ (if is_none q then found_at cmp news n k else found_at cmp owns n k)
  left_at us news owns [] n k q f g h e = cc
  left_at [] news owns (m ∷ helds) n k q f g h e = absurd h
  left_at (u ∷ us) [] owns (m ∷ helds) n k q f g h e = absurd f
  left_at (u ∷ us) (a ∷ news) [] (m ∷ helds) n k q f g h e = absurd g
  left_at (u ∷ us) (a ∷ news) (o ∷ owns) (m ∷ helds) zero k q f g h e =
      let held : get cmp m k ≡ q = cc in
      left_by x y a o m k (reduced u a f.0) h.0 q held (is_none q) refl
  left_at (u ∷ us) (a ∷ news) (o ∷ owns) (m ∷ helds) (suc n) k q f g h e = left_at us news owns helds n k q f.1 g.1 h.1 e

-- ---- what fits

module _ {K V : Type 0} {cmp : K → K → Ordering} (o : IsTotalOrder cmp) {eq : V → V → Bool} {d : V} {P : K → Type 0} {Q : V → Type 0} (q : Q d) where
  kept_fits : (new own : Map K V) (ks : List K) → FitsMap cmp eq d P Q new → FitsMap cmp eq d P Q own → All P ks → FitsMap cmp eq d P Q (kept_at cmp eq new own ks)
  kept_fits new own [] h g a = h
  kept_fits new own (k ∷ ks) h g a =
      kept_fits (set cmp eq new k (get cmp own k)) own ks (FitsMap-set o new k (get cmp own k) h (All-head P k ks a) (FitsMap-get o own k g q)) g (All-tail P k ks a)

module _ {K V U : Type 0} (cmp : K → K → Ordering) (eq : V → V → Bool) (R : U → Map K V → Type 0) (H : U → Map K Fraction → Type 0) (go : (u : U) (new own : Map K V) (held : Map K Fraction) → R u new → R u own → H u held → R u (kept_at cmp eq new own (keys held))) where
  maps_fit : (us : List U) (news owns : List (Map K V)) (helds : List (Map K Fraction)) → AllZip R us news → AllZip R us owns → AllZip H us helds → AllZip R us (forgotten_maps cmp eq news owns helds)
  maps_fit [] [] owns helds f g h = tt
  maps_fit [] (a ∷ news) owns helds f g h = absurd f
  maps_fit (u ∷ us) [] owns helds f g h = absurd f
  maps_fit (u ∷ us) (a ∷ news) [] helds f g h = absurd g
  maps_fit (u ∷ us) (a ∷ news) (o ∷ owns) [] f g h = absurd h
  maps_fit (u ∷ us) (a ∷ news) (o ∷ owns) (m ∷ helds) f g h = (go u a o m f.0 g.0 h.0, maps_fit us news owns helds f.1 g.1 h.1)

pub forgotten_fits : (l : Layout) (s : State) (m : Memo) → FitsState l s → FitsMemo l m → FitsMemo l (forgotten s m)
forgotten_fits l s m h g = record {
  heap = maps_fit nat_cmp value_eq FitsHeap FitsMask (λ u new own held i j k. kept_fits exact_values.total (FitsValue-default u) new own (keys held) i j k.keys) l.fields m.heap s.heap s.mask g.heap h.heap h.mask;
  content = maps_fit key_cmp same_content FitsContents FitsAmounts (λ us new own held i j k. kept_fits exact_contents.total tt new own (keys held) i j k.keys) l.keys m.content s.content s.amount g.content h.content h.amount;
}

-- a choice that does not fit is none
pub memo_in_fits : (l : Layout) (c : Choice) → IfSome (memo_in l c) (FitsMemo l)
memo_in_fits l (choice.Filled m) = where_so (fits_memo l m) refl
  where
    where_so : (b : Bool) → fits_memo l m ≡ b → IfSome (if b then Some m else None) (FitsMemo l)
    where_so true e = (Decides-fits_memo l m).0 e
    where_so false e = tt
memo_in_fits l _ = tt

pub forget_fits : {C : Choice → Type 0} (l : Layout) (s : State) → FitsState l s → KeepsRun (FitsEvent l) C (FitsState l) (forget l s)
forget_fits l s h = taking_kept (memo_in l) (λ c any. memo_in_fits l c) (λ m g.
    let after = forgotten_fits l s m h g in
    before_kept (event.Whole (forgotten s m) ∷ []) (All-cons (FitsEvent l) (event.Whole (forgotten s m)) [] after (All-nil (FitsEvent l)))
    (at_end (is_kept (record { heap = after.heap; content = after.content; mask = h.mask; amount = h.amount }))))

-- ---- states

module _ (l : Layout) (s : State) (m : Memo) (h : FitsState l s) (g : FitsMemo l m) where
  pub value_left : (f r : ℕ) (q : Fraction) → mask_at s f r ≡ Some q → value_at (with_memo s (forgotten s m)) f r ≡ (if is_none q then value_at (with_memo s m) f r else value_at s f r)
  value_left f r q e = left_at exact_values exact_masks (λ u. IsReference) FitsHeap (λ u n i. i.reduced) l.fields m.heap s.heap s.mask f r q g.heap h.heap h.mask e

  pub content_left : (p : ℕ) (k : Key) (q : Fraction) → amount_at s p k ≡ Some q → content_at (with_memo s (forgotten s m)) p k ≡ (if is_none q then content_at (with_memo s m) p k else content_at s p k)
  content_left p k q e = left_at exact_contents exact_amounts FitsKey FitsContents (λ us n i. i.reduced) l.keys m.content s.content s.amount p k q g.content h.content h.amount e
