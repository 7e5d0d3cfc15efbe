-- The own map with the new values where nothing is held is the new map with the own values where something is held.
use denote.Ref.{Bor}
use Rattle.std.proofs.Math.Numerals.{add-one}
use Rattle.std.proofs.Math.Seq.{drop-cons}
use Rattle.std.proofs.lemmas.List.{map-append, length-map}
use Rattle.std.proofs.Math.Seq.{drop-length}
use Rattle.std.proofs.Common.{arith, suc, ◌+◌, ◌≤◌, ◌++◌, drop, append_assoc, ◌≡◌, ◌<◌, ℕ, length, get_or, slice_get, refl, sym, ap, ◌∙◌, Bool, true, false, not, ◌&&◌, ◌||◌, cond, Option, Some, unwrap_or, List, [], ◌∷◌, All, Contains, map}
use Rattle.std.specs.Prelude.{filter}
use Rattle.std.specs.Option.{option_map}
use Rattle.std.proofs.lemmas.Option.{slice_get-map, slice_get_read, slice_get-get_or, slice_get_within, get_or_from_slice_get}
use Rattle.std.specs.BTreeMap.{is_at}
use Rattle.std.specs.Map.{keys_of, values_of, lookup}
use Rattle.std.specs.Ordering.{on}
use Rattle.std.specs.declared.cmp.Ordering.{Ordering}
use Rattle.std.proofs.lemmas.List.Elements.{All-head, All-tail}
use Rattle.lemmas.proofs.Lists.{next_item}
use Rattle.lemmas.proofs.Orders.{is_equal}
use Rattle.sparse.specs.Map.{Map, borrowed, get, set, keys, IsReduced, IsSame}
use Rattle.sparse.specs.Meaning.{IsExact}
use Rattle.sparse.proofs.MeaningLaws.{meaning_of-same, IsMeaning-on}
use Rattle.vb_value.specs.Content.{Content, same_content}
use Rattle.vb_value.specs.Key.{key_cmp}
use Rattle.vb_value.specs.View.{content_of}
use Rattle.vb_value.specs.declared.contents.Content.{Content as Code}
use Rattle.viper_state.specs.State.{Key}
use Rattle.viper_state.specs.View.{contents_of}
use Rattle.viper_state.proofs.MapLaws.{exact_contents}
use Rattle.sparse.proofs.MapLaws.{IsReduced-set, get-set_is, map_from_get, get-key}
use Rattle.vb_value.specs.Fraction.{Fraction}
use Rattle.vb_value.specs.Value.{fraction_eq}
use Rattle.viper_meaning.specs.Forgotten.{kept_at}
use Rattle.viper_state.specs.Loose.{is_listed, IsLooseAmong}
use Rattle.viper_inhale.specs.Free.{is_free, AreFree}
use Rattle.std.proofs.lemmas.Bool.{true≢false}

-- ---- what a map has at listed keys

module _ {K : Type 0} (cmp : K → K → Ordering) where
  abbrev pub listed : List K → K → Bool
  listed ks q = is_listed cmp ks q

module _ {K V : Type 0} {cmp : K → K → Ordering} {eq : V → V → Bool} (x : IsExact cmp eq) where
  same_at : (q k : K) → is_at (cmp q) k ≡ true → q ≡ k
  same_at q k h = x.keys q k (is_equal (cmp q k) h)

  values_step : (b l : Bool) (v w y : V) → (b ≡ true → v ≡ w) → cond l w (cond b v y) ≡ cond (b || l) w y
  values_step true true v w y h = refl
  values_step true false v w y h = h refl
  values_step false l v w y h = refl

  kept_reduced : (m n : Map K V) (ks : List K) → IsReduced cmp eq m → IsReduced cmp eq (kept_at cmp eq m n ks)
  kept_reduced m n [] r = r
  kept_reduced m n (k ∷ ks) r = kept_reduced (set cmp eq m k (get cmp n k)) n ks (IsReduced-set x.total m r k (get cmp n k))

  kept_default : (m n : Map K V) (ks : List K) → (kept_at cmp eq m n ks).default ≡ m.default
  kept_default m n [] = refl
  kept_default m n (k ∷ ks) = kept_default (set cmp eq m k (get cmp n k)) n ks

  kept_get : (m n : Map K V) (ks : List K) (q : K) → IsReduced cmp eq m → get cmp (kept_at cmp eq m n ks) q ≡ cond (listed cmp ks q) (get cmp n q) (get cmp m q)
  kept_get m n [] q r = refl
  kept_get m n (k ∷ ks) q r =
      kept_get (set cmp eq m k (get cmp n k)) n ks q (IsReduced-set x.total m r k (get cmp n k))
      ∙ ap (λ y. cond (listed cmp ks q) (get cmp n q) y) (get-set_is x m r k q (get cmp n k))
      ∙ values_step (is_at (cmp q) k) (listed cmp ks q) (get cmp n k) (get cmp n q) (get cmp m q) (λ h. ap (λ j. get cmp n j) (sym (same_at q k h)))

  -- a key that is not listed has the default
  absent_step : (b l : Bool) (v z : V) (rest : Option V) → (b || l) ≡ false → (l ≡ false → unwrap_or rest z ≡ z) → unwrap_or (cond b (Some v) rest) z ≡ z
  absent_step true l v z rest h f = absurd (cc)
  absent_step false l v z rest h f = f h

  absent : (es : List (K × V)) (z : V) (q : K) → listed cmp (keys_of es) q ≡ false → unwrap_or (lookup (is_at (cmp q)) es) z ≡ z
  absent [] z q h = refl
  absent (e ∷ es) z q h = absent_step (is_at (cmp q) e.0) (listed cmp (keys_of es) q) e.1 z (lookup (is_at (cmp q)) es) h (absent es z q)

  listed_step : (b l t : Bool) → (b ≡ true → t ≡ true) → (b || l && t) ≡ ((b || l) && t)
  listed_step true l true h = refl
  listed_step true l false h = sym (h refl)
  listed_step false l t h = refl

  skipped_step : (b l t : Bool) → (b ≡ true → t ≡ false) → (l && t) ≡ ((b || l) && t)
  skipped_step true true t h = refl
  skipped_step true false t h = sym (h refl)
  skipped_step false l t h = refl

  listed_if : (test : K → Bool) (k : K) (ks : List K) (q : K) (t : Bool) → test k ≡ t → listed cmp (filter test ks) q ≡ (listed cmp ks q && test q) →
      listed cmp (cond t (k ∷ filter test ks) (filter test ks)) q ≡ (listed cmp (k ∷ ks) q && test q)
  listed_if test k ks q true h f =
      ap (λ r. is_at (cmp q) k || r) f ∙ listed_step (is_at (cmp q) k) (listed cmp ks q) (test q) (λ e. ap test (same_at q k e) ∙ h)
  listed_if test k ks q false h f = f ∙ skipped_step (is_at (cmp q) k) (listed cmp ks q) (test q) (λ e. ap test (same_at q k e) ∙ h)

  listed_filter : (test : K → Bool) (ks : List K) (q : K) → listed cmp (filter test ks) q ≡ (listed cmp ks q && test q)
  listed_filter test [] q = refl
  listed_filter test (k ∷ ks) q = listed_if test k ks q (test k) refl (listed_filter test ks q)

-- ---- where something is held

module _ {K : Type 0} {cmp : K → K → Ordering} (x : IsExact cmp fraction_eq) where
  free_step : (b l : Bool) (v z : Fraction) (rest : Option Fraction) → fraction_eq v z ≡ false → fraction_eq (unwrap_or rest z) z ≡ not l → fraction_eq (unwrap_or (cond b (Some v) rest) z) z ≡ not (b || l)
  free_step true l v z rest h f = h
  free_step false l v z rest h f = f

  free_by : (es : List (K × Fraction)) (z : Fraction) (q : K) → All (λ v. fraction_eq v z ≡ false) (values_of es) → fraction_eq (unwrap_or (lookup (is_at (cmp q)) es) z) z ≡ not (listed cmp (keys_of es) q)
  free_by [] z q h = (x.values z z).1 refl
  free_by (e ∷ es) z q h =
      free_step (is_at (cmp q) e.0) (listed cmp (keys_of es) q) e.1 z (lookup (is_at (cmp q)) es) (All-head (λ v. fraction_eq v z ≡ false) e.1 (values_of es) h)
      (free_by es z q (All-tail (λ v. fraction_eq v z ≡ false) e.1 (values_of es) h))

  free_is : (held : Map K Fraction) (q : K) → IsReduced cmp fraction_eq held → is_free cmp held q ≡ not (listed cmp (keys held) q)
  free_is held q r = free_by held.entries held.default q r.no_default

-- ---- the law

places : {V : Type 0} (h l o n : Bool) (own new z : V) → (o ≡ false → own ≡ z) → (n ≡ false → new ≡ z) → (l ≡ true → h ≡ false) → (o ≡ true → h ≡ false → l ≡ true) →
    cond h own new ≡ cond (n && not h) new (cond l new own)
places true true o n own new z f g free each = absurd (true≢false (free refl))
places true false o true own new z f g free each = refl
places true false o false own new z f g free each = refl
places false true o true own new z f g free each = refl
places false true o false own new z f g free each = refl
places false false true n own new z f g free each = absurd (true≢false (sym (each refl refl)))
places false false false true own new z f g free each = refl
places false false false false own new z f g free each = g refl ∙ sym (f refl)

not_true : (b : Bool) → not b ≡ true → b ≡ false
not_true true h = cc
not_true false h = refl

both_true : (a b : Bool) → (a && b) ≡ true → b ≡ true
both_true true b h = h
both_true false b h = absurd (true≢false (sym h))

true_both : (a b : Bool) → a ≡ true → b ≡ true → (a && b) ≡ true
true_both true b h g = g
true_both false b h g = h

module _ {K V : Type 0} {cmp : K → K → Ordering} {eq : V → V → Bool} (x : IsExact cmp eq) (y : IsExact cmp fraction_eq) where
  pub kept_by_change : (new own : Map K V) (held : Map K Fraction) (ks : List K) → IsReduced cmp eq new → IsReduced cmp eq own → IsReduced cmp fraction_eq held → new.default ≡ own.default → AreFree cmp (keys own) held ks →
      kept_at cmp eq (kept_at cmp eq own new ks) new (filter (is_free cmp held) (keys new)) ≡ kept_at cmp eq new own (keys held)
  kept_by_change new own held ks rn ro rh same are =
      let free = is_free cmp held in
      let half = kept_at cmp eq own new ks in
      let half_reduced = kept_reduced x own new ks ro in
      sym (map_from_get x (kept_at cmp eq new own (keys held)) (kept_at cmp eq half new (filter free (keys new)))
      (kept_reduced x new own (keys held) rn) (kept_reduced x half new (filter free (keys new)) half_reduced)
      (kept_default x new own (keys held) ∙ same ∙ sym (kept_default x half new (filter free (keys new)) ∙ kept_default x own new ks))
      (λ q.
      let h = listed cmp (keys held) q in
      let l = listed cmp ks q in
      let o = listed cmp (keys own) q in
      let n = listed cmp (keys new) q in
      let free_here : free q ≡ not h = free_is y held q rh in
      let in_new : listed cmp (filter free (keys new)) q ≡ (n && not h) = listed_filter x free (keys new) q ∙ ap (λ b. n && b) free_here in
      kept_get x new own (keys held) q rn
      ∙ places h l o n (get cmp own q) (get cmp new q) own.default (absent x own.entries own.default q) (λ e. absent x new.entries new.default q e ∙ same)
      (λ e. not_true h (sym free_here ∙ are.free q e)) (λ e f. are.each q e (free_here ∙ ap not f))
      ∙ sym (kept_get x half new (filter free (keys new)) q half_reduced
      ∙ (λ i. cond (in_new i) (get cmp new q) (kept_get x own new ks q ro i)))))

-- ---- the free keys of a list

module _ {K : Type 0} {cmp : K → K → Ordering} (y : IsExact cmp fraction_eq) where
  pub filter_free : (ks : List K) (held : Map K Fraction) → AreFree cmp ks held (filter (is_free cmp held) ks)
  filter_free ks held = record {
    free = λ k e. both_true (listed cmp ks k) (is_free cmp held k) (sym (listed_filter y (is_free cmp held) ks k) ∙ e);
    each = λ k e f. listed_filter y (is_free cmp held) ks k ∙ true_both (listed cmp ks k) (is_free cmp held k) e f;
  }

  pub filter_loose : {V : Type 0} (own : Map K V) (held : Map K Fraction) (list : List K) → IsReduced cmp fraction_eq held → IsLooseAmong cmp own held list → AreFree cmp (keys own) held (filter (is_free cmp held) list)
  filter_loose own held list r among = record {
    free = λ k e. both_true (listed cmp list k) (is_free cmp held k) (sym (listed_filter y (is_free cmp held) list k) ∙ e);
    each = λ k e f. listed_filter y (is_free cmp held) list k ∙ true_both (listed cmp list k) (is_free cmp held k) (among k e (not_true (listed cmp (keys held) k) (sym (free_is y held k r) ∙ f))) f;
  }

-- ---- what a hint tells

module _ {K : Type 0} {cmp : K → K → Ordering} (x : IsExact cmp fraction_eq) where
  -- a key with an entry is not free
  pub held_not_free : (held : Map K Fraction) (k : K) → IsReduced cmp fraction_eq held → Contains (keys held) k → is_free cmp held k ≡ false
  held_not_free held k r there = by (is_free cmp held k) refl
    where
      by : (b : Bool) → is_free cmp held k ≡ b → b ≡ false
      by true e = absurd (get-key x held r k there ((x.values (get cmp held k) held.default).0 e))
      by false e = refl

-- ---- lists of borrowed keys

abbrev NowAt : {X : Type 0} → Option (Bor X) → Option X
NowAt {X} o = option_map (λ (b : Bor X). b.now) o

module _ {X : Type 0} where
  -- what is borrowed at an index, whatever would stand there if there were none
  pub borrowed_at : (xs : List (Bor X)) (i : ℕ) (d : Bor X) → i < length xs → slice_get (borrowed xs) i ≡ Some ((get_or xs i d).now)
  borrowed_at xs i d lt = slice_get-map (λ (b : Bor X). b.now) xs i ∙ ap NowAt (slice_get-get_or xs i d lt)

  borrowed_here : (xs : List (Bor X)) (i : ℕ) (x : Bor X) → slice_get xs i ≡ Some x → slice_get (borrowed xs) i ≡ Some x.now
  borrowed_here xs i x there = slice_get-map (λ (b : Bor X). b.now) xs i ∙ ap NowAt there

  pub borrowed_item : (xs : List (Bor X)) (i : ℕ) (x : Bor X) → i < length xs → x ≡ get_or xs i x → slice_get (borrowed xs) i ≡ Some x.now
  borrowed_item xs i x lt is = borrowed_here xs i x (slice_get_read xs _ i x refl lt is)

  pub next_borrowed : (xs : List (Bor X)) (i : ℕ) (x : Bor X) → i < length xs → x ≡ get_or xs i x → drop i (borrowed xs) ≡ x.now ∷ drop (i + 1) (borrowed xs)
  next_borrowed xs i x lt is =
      let there : slice_get (borrowed xs) i ≡ Some x.now = borrowed_item xs i x lt is in
      rw add-one (drop-cons (borrowed xs) i x.now (slice_get_within (borrowed xs) i x.now there) ∙ ap (λ y. y ∷ drop (suc i) (borrowed xs)) (get_or_from_slice_get (borrowed xs) i x.now x.now there))

  pub none_left : (xs : List (Bor X)) (i : ℕ) → length xs ≤ i → i ≤ length xs → drop i (borrowed xs) ≡ []
  none_left xs i above below = let end : i ≡ length (borrowed xs) = omega (arith, length-map xs (λ (b : Bor X). b.now), above, below) in rw end (drop-length (borrowed xs))

module _ {K V : Type 0} where
  pub contains_here : (xs : List (Bor (K × V))) (i : ℕ) (e : Bor (K × V)) (k : K) → slice_get xs i ≡ Some e → k ≡ e.now.0 → Contains (keys_of (borrowed xs)) k
  contains_here xs i e k there same =
      let key : slice_get (keys_of (borrowed xs)) i ≡ Some e.now.0 = slice_get-map (λ (p : K × V). p.0) (borrowed xs) i ∙ ap (option_map (λ (p : K × V). p.0)) (borrowed_here xs i e there) in
      (i, slice_get_within (keys_of (borrowed xs)) i e.now.0 key, get_or_from_slice_get (keys_of (borrowed xs)) i e.now.0 k key ∙ sym same)

  -- one more key is listed, or none, of the entry at an index
  module _ (F : List K → List K) (es : List (Bor (K × V))) (i : ℕ) (e : Bor (K × V)) (all : List K) (lt : i < length es) (is : e ≡ get_or es i e) where
    pub key_pushed : (list more : List (Bor K)) (b : Bor K) → ((ks : List K) → F (e.now.0 ∷ ks) ≡ e.now.0 ∷ F ks) → more ≡ list ++ b ∷ [] → b.now ≡ e.now.0 →
        borrowed list ++ F (keys_of (drop i (borrowed es))) ≡ all → borrowed more ++ F (keys_of (drop (i + 1) (borrowed es))) ≡ all
    key_pushed list more b step pushed same so_far =
        let rest = keys_of (drop (i + 1) (borrowed es)) in
        ap (λ bs. borrowed bs ++ F rest) pushed ∙ ap (λ ks. ks ++ F rest) (map-append (λ (x : Bor K). x.now) list (b ∷ []))
        ∙ append_assoc (borrowed list) (b.now ∷ []) (F rest)
        ∙ ap (λ k. borrowed list ++ k ∷ F rest) same
        ∙ ap (λ ks. borrowed list ++ ks) (sym (step rest))
        ∙ ap (λ ds. borrowed list ++ F (keys_of ds)) (sym (next_borrowed es i e lt is)) ∙ so_far

    pub key_skipped : (list : List (Bor K)) → ((ks : List K) → F (e.now.0 ∷ ks) ≡ F ks) →
        borrowed list ++ F (keys_of (drop i (borrowed es))) ≡ all → borrowed list ++ F (keys_of (drop (i + 1) (borrowed es))) ≡ all
    key_skipped list step so_far =
        ap (λ ks. borrowed list ++ ks) (sym (step (keys_of (drop (i + 1) (borrowed es))))) ∙ ap (λ ds. borrowed list ++ F (keys_of ds)) (sym (next_borrowed es i e lt is)) ∙ so_far

module _ {K : Type 0} (F : List K → List K) (ks : List K) (i : ℕ) (k : K) (all : List K) (lt : i < length ks) (is : k ≡ get_or ks i k) where
  -- the same of a key of a list
  pub item_pushed : (list more : List (Bor K)) (b : Bor K) → ((rest : List K) → F (k ∷ rest) ≡ k ∷ F rest) → more ≡ list ++ b ∷ [] → b.now ≡ k →
      borrowed list ++ F (drop i ks) ≡ all → borrowed more ++ F (drop (i + 1) ks) ≡ all
  item_pushed list more b step pushed same so_far =
      let rest = drop (i + 1) ks in
      ap (λ bs. borrowed bs ++ F rest) pushed ∙ ap (λ qs. qs ++ F rest) (map-append (λ (x : Bor K). x.now) list (b ∷ []))
      ∙ append_assoc (borrowed list) (b.now ∷ []) (F rest)
      ∙ ap (λ q. borrowed list ++ q ∷ F rest) same
      ∙ ap (λ qs. borrowed list ++ qs) (sym (step rest))
      ∙ ap (λ qs. borrowed list ++ F qs) (sym (next_item ks i k lt is)) ∙ so_far

  pub item_skipped : (list : List (Bor K)) → ((rest : List K) → F (k ∷ rest) ≡ F rest) → borrowed list ++ F (drop i ks) ≡ all → borrowed list ++ F (drop (i + 1) ks) ≡ all
  item_skipped list step so_far =
      ap (λ qs. borrowed list ++ qs) (sym (step (drop (i + 1) ks))) ∙ ap (λ qs. borrowed list ++ F qs) (sym (next_item ks i k lt is)) ∙ so_far

pub filter_takes : {K : Type 0} (test : K → Bool) (k : K) → test k ≡ true → (ks : List K) → filter test (k ∷ ks) ≡ k ∷ filter test ks
filter_takes test k h ks = ap (λ b. cond b (k ∷ filter test ks) (filter test ks)) h

pub filter_skips : {K : Type 0} (test : K → Bool) (k : K) → test k ≡ false → (ks : List K) → filter test (k ∷ ks) ≡ filter test ks
filter_skips test k h ks = ap (λ b. cond b (k ∷ filter test ks) (filter test ks)) h

-- ---- contents

same_keys : (es : List (Key × Code)) → keys_of (map {B = Key × Content} (λ (e : Key × Code). (e.0, content_of e.1)) es) ≡ keys_of es
same_keys [] = refl
same_keys (e ∷ es) = ap (λ ks. e.0 ∷ ks) (same_keys es)

pub contents_keys : (m : Map Key Code) → keys (contents_of m) ≡ keys m
contents_keys m = same_keys m.entries

pub contents_copy : (m n : Map Key Code) → IsSame key_cmp (on content_of same_content) m n → contents_of n ≡ contents_of m
contents_copy m n h = sym (meaning_of-same (IsMeaning-on (λ k. k) content_of key_cmp same_content) exact_contents m n h)
