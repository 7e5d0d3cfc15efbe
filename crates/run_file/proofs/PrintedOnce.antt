-- No two of the lines that are printed of an opening, or of a heap and contents, name the same.
use Rattle.std.proofs.Common.{◌≡◌, ◌≢◌, ◌+◌, ◌≤◌, ℕ, Bool, true, false, cond, List, [], ◌∷◌, ◌++◌, append_assoc, All, AllPairs, refl, sym, subst, arith}
use Rattle.std.specs.Prelude.{⊤}
use Rattle.std.specs.Cmp.{IsTotalOrder}
use Rattle.std.specs.List.{AllByRecursion, AllZip}
use Rattle.std.specs.List.Sorted.{IsStrictlySortedBy}
use Rattle.std.specs.Ordering.{nat_cmp}
use Rattle.std.specs.declared.cmp.Ordering.{Ordering}
use Rattle.std.specs.declared.cmp.Ordering.TheVariants.{Less}
use Rattle.std.proofs.lemmas.List.{append-nil}
use Rattle.std.proofs.lemmas.List.Elements.{All-nil, All-cons, All-weaker}
use Rattle.std.proofs.lemmas.List.Kept.{AllPairs-cons}
use Rattle.sparse.specs.Map.{Map, get, keys}
use Rattle.vb_value.specs.Key.{key_cmp}
use Rattle.vb_value.specs.Layout.{Layout}
use Rattle.vb_value.specs.Value.{default_of, type_of, value_eq}
use Rattle.vb_value.specs.declared.values.Value.{Value}
use Rattle.viper_state.specs.Fits.{FitsMemo, FitsHeap, FitsContents}
use Rattle.viper_state.specs.Run.{Opening}
use Rattle.viper_state.specs.State.{Key, Memo}
use Rattle.viper_state.proofs.MapLaws.{exact_values, exact_contents}
use Rattle.run_file.specs.Lines.{ViperLine, Var, Heap, Holds}
use Rattle.run_file.specs.Run.{names_of, all_names, NamedOnce}
use Rattle.run_file.specs.declared.lines.LineTarget.{LineTarget}
use Rattle.run_file.specs.declared.lines.LineTarget.TheVariants.{Variable, Place, Instance}
use Rattle.run_file_words.proofs.OnceLaws.{less_itself}
use Rattle.run_file_words.proofs.SaidLines.{numbered}
use Rattle.run_file.proofs.PrintedMemos.{entry_lines, map_lines, memo_lines, var_lines, opening_lines}

-- what lines name from a number on, each once
record Once (From : ℕ → LineTarget → Type 0) (n : ℕ) (ls : List ViperLine) : Type 0 where
  apart : NamedOnce ls
  from : All (From n) (all_names ls)

nothing_named : (From : ℕ → LineTarget → Type 0) (n : ℕ) → Once From n []
nothing_named From n = record { apart = λ i j d below within. absurd (omega (arith, within)); from = All-nil (From n) }

-- a line that names something else
one_more : (From : ℕ → LineTarget → Type 0) (n : ℕ) (l : ViperLine) (x : LineTarget) (ls : List ViperLine) → names_of l ≡ x ∷ [] → From n x → All (λ y. x ≢ y) (all_names ls) → Once From n ls → Once From n (l ∷ ls)
one_more From n l x ls is from apart h = record {
  apart = subst (λ ns. AllPairs (λ a b. a ≢ b) (ns ++ all_names ls)) (sym is) (AllPairs-cons (λ a b. a ≢ b) x (all_names ls) apart h.apart);
  from = subst (λ ns. All (From n) (ns ++ all_names ls)) (sym is) (All-cons (From n) x (all_names ls) from h.from);
}

fewer : (From : ℕ → LineTarget → Type 0) → ((n : ℕ) (x : LineTarget) → From (n + 1) x → From n x) → (n : ℕ) (ls : List ViperLine) → Once From (n + 1) ls → Once From n ls
fewer From more n ls h = record { apart = h.apart; from = All-weaker (From (n + 1)) (From n) (more n) (all_names ls) h.from }

-- ---- maps

-- how the lines of one kind name places
record Names {K V : Type 0} (line : ℕ → K → V → ViperLine) (name : ℕ → K → LineTarget) (From : ℕ → LineTarget → Type 0) : Type 0 where
  named : (n : ℕ) (k : K) (v : V) → names_of (line n k v) ≡ name n k ∷ []
  key : (n : ℕ) (k q : K) → name n k ≡ name n q → k ≡ q
  from : (n : ℕ) (k : K) → From n (name n k)
  more : (n : ℕ) (x : LineTarget) → From (n + 1) x → From n x
  apart : (n : ℕ) (k : K) (x : LineTarget) → From (n + 1) x → name n k ≢ x

module _ {K V : Type 0} {cmp : K → K → Ordering} (o : IsTotalOrder cmp) (line : ℕ → K → V → ViperLine) (name : ℕ → K → LineTarget) (From : ℕ → LineTarget → Type 0) (h : Names line name From) where
  head_apart : (n : ℕ) (m : Map K V) (k : K) (ks : List K) (ls : List ViperLine) → AllByRecursion (λ q. cmp k q ≡ Less) ks → All (From (n + 1)) (all_names ls) →
      All (λ y. name n k ≢ y) (all_names (entry_lines cmp line n m ks ++ ls))
  head_apart n m k [] ls below from = All-weaker (From (n + 1)) (λ y. name n k ≢ y) (h.apart n k) (all_names ls) from
  head_apart n m k (q ∷ ks) ls below from =
      subst (λ ns. All (λ y. name n k ≢ y) (ns ++ all_names (entry_lines cmp line n m ks ++ ls))) (sym (h.named n q (get cmp m q)))
      (All-cons (λ y. name n k ≢ y) (name n q) (all_names (entry_lines cmp line n m ks ++ ls)) (λ e. less_itself o k q below.0 (h.key n k q e)) (head_apart n m k ks ls below.1 from))

  entries_once : (n : ℕ) (m : Map K V) (ks : List K) (ls : List ViperLine) → IsStrictlySortedBy cmp ks → Once From (n + 1) ls → Once From n (entry_lines cmp line n m ks ++ ls)
  unfolding IsStrictlySortedBy
  entries_once n m [] ls sorted g = fewer From h.more n ls g
  entries_once n m (k ∷ ks) ls sorted g =
      one_more From n (line n k (get cmp m k)) (name n k) (entry_lines cmp line n m ks ++ ls) (h.named n k (get cmp m k)) (h.from n k)
      (head_apart n m k ks ls sorted.0 g.from) (entries_once n m ks ls sorted.1 g)

  maps_once : (n : ℕ) (ms : List (Map K V)) (ls : List ViperLine) → AllByRecursion (λ m. IsStrictlySortedBy cmp (keys m)) ms → ((j : ℕ) → Once From j ls) →
      Once From n (numbered (map_lines cmp line) n ms ++ ls)
  maps_once n [] ls sorted g = g n
  maps_once n (m ∷ ms) ls sorted g =
      subst (Once From n) (sym (append_assoc (map_lines cmp line n m) (numbered (map_lines cmp line) (n + 1) ms) ls))
      (entries_once n m (keys m) (numbered (map_lines cmp line) (n + 1) ms ++ ls) sorted.0 (maps_once (n + 1) ms ls sorted.1 g))

-- ---- the three kinds, each before the next

abbrev FromInstance : ℕ → LineTarget → Type 0
FromInstance n (Variable i) = ⊥
FromInstance n (Place f r) = ⊥
FromInstance n (Instance q k) = n ≤ q

abbrev FromPlace : ℕ → LineTarget → Type 0
FromPlace n (Variable i) = ⊥
FromPlace n (Place f r) = n ≤ f
FromPlace n (Instance q k) = ⊤

abbrev FromVariable : ℕ → LineTarget → Type 0
FromVariable n (Variable i) = n ≤ i
FromVariable n (Place f r) = ⊤
FromVariable n (Instance q k) = ⊤

instance_more : (n : ℕ) (x : LineTarget) → FromInstance (n + 1) x → FromInstance n x
instance_more n (Variable i) h = h
instance_more n (Place f r) h = h
instance_more n (Instance q k) h = omega (arith, h)

instance_apart : (n : ℕ) (k : Key) (x : LineTarget) → FromInstance (n + 1) x → Instance n k ≢ x
instance_apart n k (Variable i) h e = h
instance_apart n k (Place f r) h e = h
instance_apart n k (Instance q j) h e = let same : n ≡ q = cc in omega (arith, h, same)

instance_key : (n : ℕ) (k j : Key) → Instance n k ≡ Instance n j → k ≡ j
instance_key n k j e = cc

instances : {V : Type 0} (line : ℕ → Key → V → ViperLine) → ((n : ℕ) (k : Key) (v : V) → names_of (line n k v) ≡ Instance n k ∷ []) → Names line Instance FromInstance
instances line is = record { named = is; key = instance_key; from = λ n k. omega arith; more = instance_more; apart = instance_apart }

place_more : (n : ℕ) (x : LineTarget) → FromPlace (n + 1) x → FromPlace n x
place_more n (Variable i) h = h
place_more n (Place f r) h = omega (arith, h)
place_more n (Instance q k) h = tt

place_apart : (n r : ℕ) (x : LineTarget) → FromPlace (n + 1) x → Place n r ≢ x
place_apart n r (Variable i) h e = h
place_apart n r (Place f q) h e = let same : n ≡ f = cc in omega (arith, h, same)
place_apart n r (Instance q k) h e = cc

place_key : (n r q : ℕ) → Place n r ≡ Place n q → r ≡ q
place_key n r q e = cc

places : {V : Type 0} (line : ℕ → ℕ → V → ViperLine) → ((n r : ℕ) (v : V) → names_of (line n r v) ≡ Place n r ∷ []) → Names line Place FromPlace
places line is = record { named = is; key = place_key; from = λ n r. omega arith; more = place_more; apart = place_apart }

variable_more : (n : ℕ) (x : LineTarget) → FromVariable (n + 1) x → FromVariable n x
variable_more n (Variable i) h = omega (arith, h)
variable_more n (Place f r) h = tt
variable_more n (Instance q k) h = tt

variable_apart : (n : ℕ) (x : LineTarget) → FromVariable (n + 1) x → Variable n ≢ x
variable_apart n (Variable i) h e = let same : n ≡ i = cc in omega (arith, h, same)
variable_apart n (Place f r) h e = cc
variable_apart n (Instance q k) h e = cc

place_behind : (j : ℕ) (x : LineTarget) → FromInstance 0 x → FromPlace j x
place_behind j (Variable i) h = h
place_behind j (Place f r) h = absurd h
place_behind j (Instance q k) h = tt

variable_behind : (j : ℕ) (x : LineTarget) → FromPlace 0 x → FromVariable j x
variable_behind j (Variable i) h = absurd h
variable_behind j (Place f r) h = tt
variable_behind j (Instance q k) h = tt

-- ---- heaps and contents, and openings

sorted_maps : {U K V : Type 0} (cmp : K → K → Ordering) (R : U → Map K V → Type 0) → ((u : U) (m : Map K V) → R u m → IsStrictlySortedBy cmp (keys m)) →
    (us : List U) (ms : List (Map K V)) → AllZip R us ms → AllByRecursion (λ m. IsStrictlySortedBy cmp (keys m)) ms
sorted_maps cmp R go [] [] h = tt
sorted_maps cmp R go [] (m ∷ ms) h = absurd h
sorted_maps cmp R go (u ∷ us) [] h = absurd h
sorted_maps cmp R go (u ∷ us) (m ∷ ms) h = (go u m h.0, sorted_maps cmp R go us ms h.1)

memo_names : (l : Layout) (m : Memo) → FitsMemo l m → Once FromPlace 0 (memo_lines m)
memo_names l m fits =
    let contents = maps_once exact_contents.total Holds Instance FromInstance (instances Holds (λ n k v. refl)) 0 m.content []
    (sorted_maps key_cmp FitsContents (λ u n i. i.reduced.ascending) l.keys m.content fits.content) (nothing_named FromInstance) in
    let alone : Once FromInstance 0 (numbered (map_lines key_cmp Holds) 0 m.content) = subst (Once FromInstance 0) (append-nil (numbered (map_lines key_cmp Holds) 0 m.content)) contents in
    maps_once exact_values.total Heap Place FromPlace (places Heap (λ n r v. refl)) 0 m.heap (numbered (map_lines key_cmp Holds) 0 m.content)
    (sorted_maps nat_cmp FitsHeap (λ u n i. i.reduced.ascending) l.fields m.heap fits.heap)
    (λ j. record { apart = alone.apart; from = All-weaker (FromInstance 0) (FromPlace j) (place_behind j) (all_names (numbered (map_lines key_cmp Holds) 0 m.content)) alone.from })

pub memo_once : (l : Layout) (m : Memo) → FitsMemo l m → NamedOnce (memo_lines m)
memo_once l m fits = (memo_names l m fits).apart

var_once : (n : ℕ) (v : Value) (ls : List ViperLine) (b : Bool) → Once FromVariable (n + 1) ls → Once FromVariable n (cond b [] (Var n v ∷ []) ++ ls)
var_once n v ls true h = fewer FromVariable variable_more n ls h
var_once n v ls false h =
    one_more FromVariable n (Var n v) (Variable n) ls refl (omega arith) (All-weaker (FromVariable (n + 1)) (λ y. Variable n ≢ y) (variable_apart n) (all_names ls) h.from) (fewer FromVariable variable_more n ls h)

vars_once : (n : ℕ) (vs : List Value) (ls : List ViperLine) → ((j : ℕ) → Once FromVariable j ls) → Once FromVariable n (numbered var_lines n vs ++ ls)
vars_once n [] ls h = h n
vars_once n (v ∷ vs) ls h =
    subst (Once FromVariable n) (sym (append_assoc (var_lines n v) (numbered var_lines (n + 1) vs) ls))
    (var_once n v (numbered var_lines (n + 1) vs ++ ls) (value_eq v (default_of (type_of v))) (vars_once (n + 1) vs ls h))

pub opening_once : (l : Layout) (o : Opening) → FitsMemo l o.memo → NamedOnce (opening_lines o)
opening_once l o fits =
    let places_of = memo_names l o.memo fits in
    (vars_once 0 o.store (memo_lines o.memo)
    (λ j. record { apart = places_of.apart; from = All-weaker (FromPlace 0) (FromVariable j) (variable_behind j) (all_names (memo_lines o.memo)) places_of.from })).apart
