-- What was kept of a state so far, one key and one map after another.
use Rattle.std.proofs.Common.{arith, ◌≡◌, inl, inr, refl, sym, ap, ◌∙◌, subst, ℕ, zero, suc, ◌<◌, ◌||◌, Bool, true, false, map, Option, Some, None, IfSome, List, [], ◌∷◌, ◌++◌, ◌+◌, take, drop, length, slice_get, slice_set, All, Result, Ok, Err, IfOk, if◌then◌else◌}
use Rattle.std.specs.declared.cmp.Ordering.{Ordering}
use Rattle.std.specs.declared.cmp.Ordering.TheVariants.{Equal}
use Rattle.std.specs.BTreeMap.{is_at}
use Rattle.std.specs.Cmp.{IsTotalOrder}
use Rattle.std.specs.Option.{option_map}
use Rattle.std.specs.Ordering.{nat_cmp}
use Rattle.std.proofs.lemmas.Bool.{true≢false}
use Rattle.std.proofs.lemmas.List.{append-nil, length-drop, length-map, take-append-drop}
use Rattle.std.proofs.lemmas.Option.{slice_get-map}
use Rattle.lemmas.proofs.Orders.{at_itself}
use Rattle.std.proofs.lemmas.List.Elements.{All-head}
use Rattle.std.proofs.lemmas.Slice.Zip.{AllZip-long}
use Rattle.sparse.specs.Map.{Map, get, set, keys}
use Rattle.vb_value.specs.Content.{Content, same_content}
use Rattle.vb_value.specs.Fraction.{Fraction}
use Rattle.vb_value.specs.Key.{key_cmp}
use Rattle.vb_value.specs.Value.{value_eq}
use Rattle.vb_value.specs.declared.contents.Content.{Content as Code}
use Rattle.vb_value.specs.Layout.{Layout}
use Rattle.viper_state.specs.Choice as choice
use Rattle.viper_state.specs.Choice.{Choice}
use Rattle.viper_state.specs.Event as event
use Rattle.viper_state.specs.Fits.{FitsHeap, FitsContents, FitsMemo, HasMaps, FitsChoice}
use Rattle.viper_state.specs.Loose.{is_listed, AreListed, AreLooseAmong}
use Rattle.viper_state.specs.Run.{Feed}
use Rattle.viper_state.specs.State.{Key, Memo, State}
use Rattle.viper_state.specs.View.{contents_of, state_of, memo_of}
use Rattle.viper_state.specs.declared.states.Memo.{Memo as MemoOfCode}
use Rattle.viper_state.specs.declared.states.State.{State as StateOfCode}
use Rattle.viper_state.proofs.FitsTestLaws.{Decides-fits_memo}
use Rattle.viper_state.proofs.LooseLaws.{set_listed}
use Rattle.viper_meaning.specs.Forgotten.{kept_at, forgotten_maps, forgotten, with_memo, memo_in, forget}
use Rattle.viper_meaning.specs.Run.{Run, given, noting, goes, on, since, ran, Goes, Blocked, Short}
use Rattle.viper_inhale.specs.Answers.{run_of, Does}
use Rattle.viper_inhale.specs.Kept.{kept_maps, kept_memo}
use Rattle.viper_inhale.specs.View.{filled_in}
use Rattle.viper_inhale.specs.declared.answers.StepHalt.{StepHalt}
use Rattle.viper_inhale.proofs.DoesLaws.{does_at}
use Rattle.viper_inhale.proofs.FreeLaws.{contents_keys}

module _ {K V : Type 0} (cmp : K → K → Ordering) (eq : V → V → Bool) where
  -- the next key of one map
  kept_more : (new own : Map K V) (ks : List K) (i : ℕ) (k : K) → slice_get ks i ≡ Some k →
      kept_at cmp eq (set cmp eq new k (get cmp own k)) own (drop (suc i) ks) ≡ kept_at cmp eq new own (drop i ks)
  kept_more new own [] i k h = cc
  kept_more new own (q ∷ ks) zero k h = let same : k ≡ q = cc in ap (λ j. kept_at cmp eq (set cmp eq new j (get cmp own j)) own ks) same
  kept_more new own (q ∷ ks) (suc i) k h = kept_more new own ks i k h

  pub kept_next : (new own : Map K V) (ks : List K) (i : ℕ) (k : K) → slice_get ks i ≡ Some k →
      kept_at cmp eq (set cmp eq new k (get cmp own k)) own (drop (i + 1) ks) ≡ kept_at cmp eq new own (drop i ks)
  kept_next new own ks i k h =
      let next : i + 1 ≡ suc i = omega arith in
      ap (λ n. kept_at cmp eq (set cmp eq new k (get cmp own k)) own (drop n ks)) next ∙ kept_more new own ks i k h

  -- the first maps are done, and the others are as they were
  abbrev pub partly : List (Map K V) → List (Map K V) → List (Map K Fraction) → ℕ → List (Map K V)
  partly news owns helds i = take i news ++ kept_maps cmp eq (drop i news) (drop i owns) (drop i helds)

  -- the next map
  partly_more : (news owns : List (Map K V)) (helds : List (Map K Fraction)) (i : ℕ) (n o : Map K V) (h : Map K Fraction) → slice_get news i ≡ Some n → slice_get owns i ≡ Some o → slice_get helds i ≡ Some h →
      partly (slice_set news i (kept_at cmp eq n o (keys h))) owns helds (suc i) ≡ partly news owns helds i
  partly_more [] owns helds i n o h a b c = cc
  partly_more (x ∷ news) [] helds i n o h a b c = cc
  partly_more (x ∷ news) (y ∷ owns) [] i n o h a b c = cc
  partly_more (x ∷ news) (y ∷ owns) (z ∷ helds) zero n o h a b c =
      let first : n ≡ x = cc in
      let second : o ≡ y = cc in
      let third : h ≡ z = cc in
      λ j. kept_at cmp eq (first j) (second j) (keys (third j)) ∷ kept_maps cmp eq news owns helds
  partly_more (x ∷ news) (y ∷ owns) (z ∷ helds) (suc i) n o h a b c = ap (λ ms. x ∷ ms) (partly_more news owns helds i n o h a b c)

  pub partly_next : (news owns : List (Map K V)) (helds : List (Map K Fraction)) (i : ℕ) (n o : Map K V) (h : Map K Fraction) → slice_get news i ≡ Some n → slice_get owns i ≡ Some o → slice_get helds i ≡ Some h →
      partly (slice_set news i (kept_at cmp eq n o (keys h))) owns helds (i + 1) ≡ partly news owns helds i
  partly_next news owns helds i n o h a b c =
      let next : i + 1 ≡ suc i = omega arith in
      ap (partly (slice_set news i (kept_at cmp eq n o (keys h))) owns helds) next ∙ partly_more news owns helds i n o h a b c

  -- all maps are done
  kept_short : (news owns : List (Map K V)) (helds : List (Map K Fraction)) → (0 < length news → 0 < length owns → 0 < length helds → ⊥) → kept_maps cmp eq news owns helds ≡ news
  kept_short [] owns helds h = refl
  kept_short (x ∷ news) [] helds h = refl
  kept_short (x ∷ news) (y ∷ owns) [] h = refl
  kept_short (x ∷ news) (y ∷ owns) (z ∷ helds) h = absurd (h (omega arith) (omega arith) (omega arith))

  pub partly_done : (news owns : List (Map K V)) (helds : List (Map K Fraction)) (i : ℕ) → (i < length news → i < length owns → i < length helds → ⊥) → partly news owns helds i ≡ news
  partly_done news owns helds i h =
      ap (λ ms. take i news ++ ms) (kept_short (drop i news) (drop i owns) (drop i helds)
      (λ a b c. h (omega (arith, length-drop i news, a)) (omega (arith, length-drop i owns, b)) (omega (arith, length-drop i helds, c)))) ∙ take-append-drop i news

  -- where no map is missing, that is what is forgotten
  pub kept_forgotten : (news owns : List (Map K V)) (helds : List (Map K Fraction)) → length owns ≡ length news → length helds ≡ length news → kept_maps cmp eq news owns helds ≡ forgotten_maps cmp eq news owns helds
  kept_forgotten [] owns helds a b = refl
  kept_forgotten (x ∷ news) [] helds a b = absurd (omega (arith, a))
  kept_forgotten (x ∷ news) (y ∷ owns) [] a b = absurd (omega (arith, b))
  kept_forgotten (x ∷ news) (y ∷ owns) (z ∷ helds) a b = ap (λ ms. kept_at cmp eq x y (keys z) ∷ ms) (kept_forgotten news owns helds (omega (arith, a)) (omega (arith, b)))

-- ---- what is loose afterwards

module _ {K V : Type 0} {cmp : K → K → Ordering} (o : IsTotalOrder cmp) (exact : (k q : K) → cmp k q ≡ Equal → k ≡ q) (eq : V → V → Bool) where
  kept_listed : (new own : Map K V) (ks : List K) (k : K) → is_listed cmp (keys (kept_at cmp eq new own ks)) k ≡ true → is_listed cmp ks k ≡ false → is_listed cmp (keys new) k ≡ true
  kept_listed new own [] k h free = h
  kept_listed new own (q ∷ ks) k h free =
      elim (set_listed o exact eq new q (get cmp own q) k (kept_listed (set cmp eq new q (get cmp own q)) own ks k h (other (is_at (cmp k) q) (is_listed cmp ks k) free))) [
        | inl e ↦ absurd (true≢false (sym (ap (λ x. is_at (cmp k) x) (sym e) ∙ at_itself o k) ∙ first (is_at (cmp k) q) (is_listed cmp ks k) free))
        | inr t ↦ t
      ]
    where
      other : (a b : Bool) → (a || b) ≡ false → b ≡ false
      other true b h = cc
      other false b h = h

      first : (a b : Bool) → (a || b) ≡ false → a ≡ false
      first true b h = h
      first false b h = refl

  kept_found : (news owns : List (Map K V)) (helds : List (Map K Fraction)) (n : ℕ) (m : Map K V) (held : Map K Fraction) → slice_get (kept_maps cmp eq news owns helds) n ≡ Some m → slice_get helds n ≡ Some held →
      (new : Map K V) × (slice_get news n ≡ Some new) × ((k : K) → is_listed cmp (keys m) k ≡ true → is_listed cmp (keys held) k ≡ false → is_listed cmp (keys new) k ≡ true)
  kept_found [] owns helds n m held h f = (m, h, λ k e g. e)
  kept_found (x ∷ news) [] helds n m held h f = (m, h, λ k e g. e)
  kept_found (x ∷ news) (y ∷ owns) [] n m held h f = (m, h, λ k e g. e)
  kept_found (x ∷ news) (y ∷ owns) (z ∷ helds) zero m held h f =
      let same : kept_at cmp eq x y (keys z) ≡ m = cc in
      let held_is : z ≡ held = cc in
      (x, refl, λ k e g. kept_listed x y (keys z) k (subst (λ r. is_listed cmp (keys r) k ≡ true) (sym same) e) (subst (λ r. is_listed cmp (keys r) k ≡ false) (sym held_is) g))
  kept_found (x ∷ news) (y ∷ owns) (z ∷ helds) (suc n) m held h f = kept_found news owns helds n m held h f

  pub kept_loose : (news owns : List (Map K V)) (helds : List (Map K Fraction)) (lists : List (List K)) → AreListed cmp news lists → AreLooseAmong cmp (kept_maps cmp eq news owns helds) helds lists
  kept_loose news owns helds lists all = λ n m held list h f l k e g.
      let new = kept_found news owns helds n m held h f in
      all n new.0 list new.1 l k (new.2 k e g)

-- the same of contents, which are seen as trees
pub listed_meant : (ms : List (Map Key Code)) (lists : List (List Key)) → AreListed key_cmp ms lists → AreListed key_cmp (map contents_of ms) lists
listed_meant ms lists all = λ n m list h l k e.
    let code = meant (slice_get ms n) m (sym (slice_get-map contents_of ms n) ∙ h) in
    all n code.0 list code.1.0 l k (subst (λ ks. is_listed key_cmp ks k ≡ true) (sym (ap keys code.1.1) ∙ contents_keys code.0) e)
  where
    meant : (p : Option (Map Key Code)) (m : Map Key Content) → option_map contents_of p ≡ Some m → (c : Map Key Code) × ((p ≡ Some c) × (contents_of c ≡ m))
    meant None m h = absurd (cc)
    meant (Some c) m h = (c, (refl, cc))

pub loose_meant : (ms : List (Map Key Code)) (masks : List (Map Key Fraction)) (lists : List (List Key)) → AreLooseAmong key_cmp (map contents_of ms) masks lists → AreLooseAmong key_cmp ms masks lists
loose_meant ms masks lists all = λ n m held list h f l k e g.
    all n (contents_of m) held list (slice_get-map contents_of ms n ∙ ap (option_map contents_of) h) f l k (subst (λ ks. is_listed key_cmp ks k ≡ true) (sym (contents_keys m)) e) g

-- ---- answers

pub ok_alike : {X E : Type 0} (r : Result X E) {P Q : X → Type 0} → IfOk r P → ((x : X) → P x → Q x) → IfOk r Q
ok_alike (Ok x) h go = go x h
ok_alike (Err e) h go = tt

pub there_alike : {X : Type 0} (p : Option X) {P Q : X → Type 0} → IfSome p P → ((x : X) → P x → Q x) → IfSome p Q
there_alike None h go = tt
there_alike (Some x) h go = go x h

-- ---- as many maps as the layout has

module _ (l : Layout) (s : StateOfCode) (n : MemoOfCode) (has : HasMaps l (state_of s)) (fit : FitsMemo l (memo_of n)) where
  pub heaps_long : length s.heap.items ≡ length n.heap.items
  heaps_long = has.heap ∙ sym (AllZip-long FitsHeap l.fields n.heap.items fit.heap)

  pub masks_long : length s.mask.items ≡ length n.heap.items
  masks_long = has.mask ∙ sym (AllZip-long FitsHeap l.fields n.heap.items fit.heap)

  contents_fit : length (memo_of n).content ≡ length l.keys
  contents_fit = AllZip-long FitsContents l.keys (memo_of n).content fit.content

  pub contents_long : length s.content.items ≡ length n.content.items
  contents_long = sym (length-map s.content.items contents_of) ∙ has.content ∙ sym contents_fit ∙ length-map n.content.items contents_of

  pub amounts_long : length s.amount.items ≡ length n.content.items
  amounts_long = has.amount ∙ sym contents_fit ∙ length-map n.content.items contents_of

  -- what a state keeps is what is forgotten of it
  pub kept_is_forgotten : kept_memo (state_of s) (memo_of n) ≡ forgotten (state_of s) (memo_of n)
  kept_is_forgotten =
      let heap = kept_forgotten nat_cmp value_eq n.heap.items s.heap.items s.mask.items heaps_long masks_long in
      let content = kept_forgotten key_cmp same_content (memo_of n).content (state_of s).content s.amount.items (has.content ∙ sym contents_fit) (has.amount ∙ sym contents_fit) in
      λ i. record { heap = heap i; content = content i }

-- ---- what is forgotten, as an event and a state

abbrev forgotten_run : State → Memo → Run State
forgotten_run s n = noting (event.Whole (forgotten s n)) (goes (with_memo s (forgotten s n)))

pub whole_recorded : (f g : Feed) (s : State) (n kept copy : Memo) → kept ≡ forgotten s n → copy ≡ kept → g.events ≡ f.events ++ event.Whole copy ∷ [] → g.left ≡ f.left →
    run_of (forgotten_run s n) f ≡ ran g.events (Goes (with_memo s kept)) g.left
whole_recorded f g s n kept copy stands same recorded left =
    λ i. ran (events i) (Goes (with_memo s (sym stands i))) (sym left i)
  where
    events : f.events ++ event.Whole (forgotten s n) ∷ [] ≡ g.events
    events = ap (λ m. f.events ++ event.Whole m ∷ []) (sym (same ∙ stands)) ∙ sym recorded

-- ---- the choice that is taken

filled_as : (c : Choice) (n : Memo) → Some n ≡ filled_in c → c ≡ choice.Filled n
filled_as (choice.Branch b) n h = cc
filled_as (choice.Took v) n h = cc
filled_as (choice.Amount q) n h = cc
filled_as (choice.Fresh x) n h = cc
filled_as (choice.Filled m) n h = cc

module _ (l : Layout) where
  pub memo_fits : (f m : Feed) (c : Choice) (n : Memo) → f.left ≡ c ∷ m.left → Some n ≡ filled_in c → All (FitsChoice l) f.left → FitsMemo l n
  memo_fits f m c n first filled fit = subst (FitsChoice l) (filled_as c n filled) (All-head (FitsChoice l) c m.left (subst (All (FitsChoice l)) first fit))

  pub memo_chosen : (c : Choice) (n : Memo) → FitsMemo l n → Some n ≡ filled_in c → memo_in l c ≡ Some n
  memo_chosen c n fit filled = ap (memo_in l) (filled_as c n filled) ∙ ap (λ b. if b then Some n else None) ((Decides-fits_memo l n).1 fit)

  pub none_chosen : (c : Choice) → None ≡ filled_in c → memo_in l c ≡ None
  none_chosen (choice.Branch b) h = refl
  none_chosen (choice.Took v) h = refl
  none_chosen (choice.Amount q) h = refl
  none_chosen (choice.Fresh x) h = refl
  none_chosen (choice.Filled m) h = cc

  module _ (s : State) where
    pub memo_taken : {Z : Type 0} {u : Z → State} {q : Result Z StepHalt} (f m g : Feed) (c : Choice) (n : Memo) → FitsMemo l n → f.left ≡ c ∷ m.left → m.events ≡ f.events → Some n ≡ filled_in c →
        Does u m (forgotten_run s n) g q → Does u f (forget l s) g q
    memo_taken f m g c n fit first events filled =
        does_at (ap (λ cs. since f.events (on (forget l s) cs)) first ∙ ap (λ o. since f.events (since [] (on (given o (forgotten_run s)) m.left))) (memo_chosen c n fit filled)
        ∙ ap (λ es. since es (on (forgotten_run s n) m.left)) (sym events))

    pub no_memo : (f m : Feed) (c : Choice) → f.left ≡ c ∷ m.left → m.events ≡ f.events → None ≡ filled_in c → run_of (forget l s) f ≡ ran m.events Blocked m.left
    no_memo f m c first events filled =
        ap (λ cs. since f.events (on (forget l s) cs)) first ∙ ap (λ o. since f.events (since [] (on (given o (forgotten_run s)) m.left))) (none_chosen c filled)
        ∙ ap (λ es. ran es Blocked m.left) (append-nil f.events ∙ sym events)

    pub no_choice_left : (f m : Feed) → f.left ≡ [] → m ≡ f → run_of (forget l s) f ≡ ran m.events Short m.left
    no_choice_left f m none same =
        ap (λ cs. since f.events (on (forget l s) cs)) none ∙ (λ i. ran (append-nil f.events i) Short (sym none i)) ∙ ap (λ g. ran g.events Short g.left) (sym same)
