-- The lines that are printed of a heap and contents, and of variables: they give them back, and name each place once.
use Rattle.std.proofs.Common.{◌≡◌, ◌∙◌, ◌+◌, ℕ, Bool, true, false, cond, if◌then◌else◌, List, [], ◌∷◌, ◌++◌, append_assoc, length, length-append, map, refl, sym, ap, arith}
use Rattle.std.specs.Prelude.{fold}
use Rattle.std.specs.List.{AllByRecursion, AllZip}
use Rattle.std.specs.Ordering.{nat_cmp}
use Rattle.std.specs.declared.cmp.Ordering.{Ordering}
use Rattle.std.proofs.lemmas.List.Sums.{fold-append}
use Rattle.sparse.specs.Map.{Map, empty, get, set, keys, IsReduced}
use Rattle.sparse.specs.Meaning.{IsExact}
use Rattle.vb_value.specs.Content as content
use Rattle.vb_value.specs.Content.{same_content}
use Rattle.vb_value.specs.Key.{key_cmp}
use Rattle.vb_value.specs.Layout.{Layout}
use Rattle.vb_value.specs.Value.{default_of, type_of, value_eq}
use Rattle.vb_value.specs.declared.values.Value.{Value}
use Rattle.viper_state.specs.Fits.{FitsMemo, FitsHeap, FitsContents}
use Rattle.viper_state.specs.Run.{Opening}
use Rattle.viper_state.specs.State.{Key, Memo, changed_at}
use Rattle.viper_state.proofs.MapLaws.{exact_values, exact_contents}
use Rattle.run_file.specs.Lines.{ViperLine, Var, Heap, Holds, Chosen, Opened}
use Rattle.run_file.specs.Run.{memo_with, opening_with, empty_memo, IsPlaceLine, IsSetting}
use Rattle.run_file_words.proofs.SaidLines.{numbered}
use Rattle.run_file_words.proofs.PrintedMaps.{refilled, refilled_is, changed_middle}

-- ---- lines

abbrev pub entry_lines : {K V : Type 0} → (K → K → Ordering) → (ℕ → K → V → ViperLine) → ℕ → Map K V → List K → List ViperLine
entry_lines cmp line n m [] = []
entry_lines cmp line n m (k ∷ ks) = line n k (get cmp m k) ∷ entry_lines cmp line n m ks

abbrev pub map_lines : {K V : Type 0} → (K → K → Ordering) → (ℕ → K → V → ViperLine) → ℕ → Map K V → List ViperLine
map_lines cmp line n m = entry_lines cmp line n m (keys m)

abbrev pub memo_lines : Memo → List ViperLine
memo_lines m = numbered (map_lines nat_cmp Heap) 0 m.heap ++ numbered (map_lines key_cmp Holds) 0 m.content

abbrev pub var_lines : ℕ → Value → List ViperLine
var_lines n v = if value_eq v (default_of (type_of v)) then [] else Var n v ∷ []

-- ---- lists of lines

pub each_append : (P : ViperLine → Type 0) (ls ms : List ViperLine) → AllByRecursion P ls → AllByRecursion P ms → AllByRecursion P (ls ++ ms)
each_append P [] ms h k = k
each_append P (l ∷ ls) ms h k = (h.0, each_append P ls ms h.1 k)

module _ {X : Type 0} (P : ViperLine → Type 0) (lines : ℕ → X → List ViperLine) (go : (n : ℕ) (x : X) → AllByRecursion P (lines n x)) where
  each_numbered : (n : ℕ) (xs : List X) → AllByRecursion P (numbered lines n xs)
  each_numbered n [] = tt
  each_numbered n (x ∷ xs) = each_append P (lines n x) (numbered lines (n + 1) xs) (go n x) (each_numbered (n + 1) xs)

module _ {K V : Type 0} (cmp : K → K → Ordering) (P : ViperLine → Type 0) (line : ℕ → K → V → ViperLine) (go : (n : ℕ) (k : K) (v : V) → P (line n k v)) where
  each_entry : (n : ℕ) (m : Map K V) (ks : List K) → AllByRecursion P (entry_lines cmp line n m ks)
  each_entry n m [] = tt
  each_entry n m (k ∷ ks) = (go n k (get cmp m k), each_entry n m ks)

  each_map : (n : ℕ) (ms : List (Map K V)) → AllByRecursion P (numbered (map_lines cmp line) n ms)
  each_map n ms = each_numbered P (map_lines cmp line) (λ i m. each_entry i m (keys m)) n ms

pub places_alone : (m : Memo) → AllByRecursion IsPlaceLine (memo_lines m)
places_alone m =
    each_append IsPlaceLine (numbered (map_lines nat_cmp Heap) 0 m.heap) (numbered (map_lines key_cmp Holds) 0 m.content)
    (each_map nat_cmp IsPlaceLine Heap (λ n k v. tt) 0 m.heap) (each_map key_cmp IsPlaceLine Holds (λ n k v. tt) 0 m.content)

place_sets : (l : ViperLine) → IsPlaceLine l → IsSetting l
place_sets (Heap f r v) h = tt
place_sets (Holds q k c) h = tt
place_sets (Var n v) h = absurd h
place_sets (Chosen c) h = absurd h
place_sets Opened h = absurd h

places_set : (ls : List ViperLine) → AllByRecursion IsPlaceLine ls → AllByRecursion IsSetting ls
places_set [] h = tt
places_set (l ∷ ls) h = (place_sets l h.0, places_set ls h.1)

var_sets : (n : ℕ) (v : Value) (b : Bool) → AllByRecursion IsSetting (cond b [] (Var n v ∷ []))
var_sets n v true = tt
var_sets n v false = (tt, tt)

-- the lines of an opening
abbrev pub opening_lines : Opening → List ViperLine
opening_lines o = numbered var_lines 0 o.store ++ memo_lines o.memo

pub settings_alone : (o : Opening) → AllByRecursion IsSetting (opening_lines o)
settings_alone o =
    each_append IsSetting (numbered var_lines 0 o.store) (memo_lines o.memo)
    (each_numbered IsSetting var_lines (λ n v. var_sets n v (value_eq v (default_of (type_of v)))) 0 o.store) (places_set (memo_lines o.memo) (places_alone o.memo))

-- ---- the lines of maps give the maps back

module _ {K V U : Type 0} {cmp : K → K → Ordering} {eq : V → V → Bool} (x : IsExact cmp eq) (line : ℕ → K → V → ViperLine) (put : List (Map K V) → Memo)
    (step : (maps : List (Map K V)) (n : ℕ) (k : K) (v : V) → memo_with (put maps) (line n k v) ≡ put (changed_at cmp eq maps n k v)) (d : U → V) where
  entries_folded : (m to : Map K V) (before after : List (Map K V)) (n : ℕ) (ks : List K) → n ≡ length before →
      fold memo_with (put (before ++ to ∷ after)) (entry_lines cmp line n m ks) ≡ put (before ++ refilled cmp eq m to ks ∷ after)
  entries_folded m to before after n [] at = refl
  entries_folded m to before after n (k ∷ ks) at =
      ap (λ s. fold memo_with s (entry_lines cmp line n m ks)) (step (before ++ to ∷ after) n k (get cmp m k) ∙ ap put (changed_middle cmp eq before after to n k (get cmp m k) at)) ∙
      entries_folded m (set cmp eq to k (get cmp m k)) before after n ks at

  map_folded : (u : U) (m : Map K V) (before after : List (Map K V)) (n : ℕ) → n ≡ length before → (m.default ≡ d u) × IsReduced cmp eq m →
      fold memo_with (put (before ++ empty (d u) ∷ after)) (map_lines cmp line n m) ≡ put (before ++ m ∷ after)
  map_folded u m before after n at h =
      ap (λ z. fold memo_with (put (before ++ empty z ∷ after)) (map_lines cmp line n m)) (sym h.0) ∙
      (entries_folded m (empty m.default) before after n (keys m) at ∙ ap (λ y. put (before ++ y ∷ after)) (refilled_is x m h.1))

  maps_folded : (us : List U) (ms before : List (Map K V)) (n : ℕ) → n ≡ length before → AllZip (λ u m. (m.default ≡ d u) × IsReduced cmp eq m) us ms →
      fold memo_with (put (before ++ map (λ u. empty (d u)) us)) (numbered (map_lines cmp line) n ms) ≡ put (before ++ ms)
  maps_folded [] [] before n at h = refl
  maps_folded [] (m ∷ ms) before n at h = absurd h
  maps_folded (u ∷ us) [] before n at h = absurd h
  maps_folded (u ∷ us) (m ∷ ms) before n at h =
      let rest : List (Map K V) = map (λ u. empty (d u)) us in
      let longer : n + 1 ≡ length (before ++ m ∷ []) = omega (arith, at, length-append before (m ∷ [])) in
      fold-append memo_with (put (before ++ empty (d u) ∷ rest)) (map_lines cmp line n m) (numbered (map_lines cmp line) (n + 1) ms) ∙
      (ap (λ s. fold memo_with s (numbered (map_lines cmp line) (n + 1) ms)) (map_folded u m before rest n at h.0 ∙ ap put (sym (append_assoc before (m ∷ []) rest))) ∙
      (maps_folded us ms (before ++ m ∷ []) (n + 1) longer h.1 ∙ ap put (append_assoc before (m ∷ []) ms)))

zip_of : {A B : Type 0} (R S : A → B → Type 0) → ((a : A) (b : B) → R a b → S a b) → (xs : List A) (ys : List B) → AllZip R xs ys → AllZip S xs ys
zip_of R S go [] [] h = tt
zip_of R S go [] (y ∷ ys) h = absurd h
zip_of R S go (x ∷ xs) [] h = absurd h
zip_of R S go (x ∷ xs) (y ∷ ys) h = (go x y h.0, zip_of R S go xs ys h.1)

-- the lines of a heap and contents fill them
pub memo_filled : (l : Layout) (m : Memo) → FitsMemo l m → fold memo_with (empty_memo l.fields l.keys) (memo_lines m) ≡ m
memo_filled l m h =
    let none = map (λ us. empty {K = Key} content.Unit) l.keys in
    fold-append memo_with (empty_memo l.fields l.keys) (numbered (map_lines nat_cmp Heap) 0 m.heap) (numbered (map_lines key_cmp Holds) 0 m.content) ∙
    (ap (λ s. fold memo_with s (numbered (map_lines key_cmp Holds) 0 m.content))
    (maps_folded exact_values Heap (λ maps. record { heap = maps; content = none }) (λ maps n k v. refl) default_of l.fields m.heap [] 0 refl
    (zip_of FitsHeap (λ u n. (n.default ≡ default_of u) × IsReduced nat_cmp value_eq n) (λ u n i. (i.default, i.reduced)) l.fields m.heap h.heap)) ∙
    maps_folded exact_contents Holds (λ maps. record { heap = m.heap; content = maps }) (λ maps n k v. refl) (λ us. content.Unit) l.keys m.content [] 0 refl
    (zip_of FitsContents (λ us n. (n.default ≡ content.Unit) × IsReduced key_cmp same_content n) (λ us n i. (i.default, i.reduced)) l.keys m.content h.content))

-- lines of a heap and contents change nothing else of an opening
pub places_open : (ls : List ViperLine) (o : Opening) → AllByRecursion IsPlaceLine ls → fold opening_with o ls ≡ record { store = o.store; memo = fold memo_with o.memo ls }
places_open [] o h = refl
places_open (Heap f r v ∷ ls) o h = places_open ls (opening_with o (Heap f r v)) h.1
places_open (Holds q k c ∷ ls) o h = places_open ls (opening_with o (Holds q k c)) h.1
places_open (Var n v ∷ ls) o h = absurd h.0
places_open (Chosen c ∷ ls) o h = absurd h.0
places_open (Opened ∷ ls) o h = absurd h.0
