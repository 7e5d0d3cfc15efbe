-- What is printed of a thing is its lines.
use Rattle.std.proofs.Common.{ℕ, Bool, true, false, cond, List, [], ◌∷◌, ◌++◌, All, refl, subst, arith}
use Rattle.std.specs.Prelude.{codes}
use Rattle.std.specs.List.{AllZip}
use Rattle.std.specs.Ordering.{nat_cmp}
use Rattle.std.proofs.lemmas.List.{append-nil}
use Rattle.std.proofs.lemmas.List.Elements.{All-head, All-tail}
use Rattle.lemmas.proofs.Lists.{all_at as found}
use Rattle.sparse.specs.Map.{Map, get, keys}
use Rattle.vb_value.specs.Content.{Content, IsReducedContent, IsWithinContent}
use Rattle.vb_value.specs.Key.{key_cmp, IsWithinKey}
use Rattle.vb_value.specs.Value.{default_of, type_of, value_eq, IsWithinValue}
use Rattle.vb_value.specs.declared.values.Ty.{Ty}
use Rattle.vb_value.specs.declared.values.Value.{Value}
use Rattle.viper_state.specs.Fits.{FitsKey, FitsValue, FitsStore, FitsHeap, FitsContents}
use Rattle.viper_state.specs.State.{Key}
use Rattle.viper_state.specs.Within.{HasValues, HasEntries}
use Rattle.viper_state.proofs.EachLaws.{get_has}
use Rattle.viper_state.proofs.FitsLaws.{FitsMap-get, FitsValue-default}
use Rattle.viper_state.proofs.MapLaws.{exact_values, exact_contents}
use Rattle.viper_state.proofs.Paired.{paired_back}
use Rattle.run_file.specs.Lines as l
use Rattle.run_file.specs.Lines.{UnitScope, Var, Heap, Holds, IsLine}
use Rattle.moves.specs.Printable.{IsNamed, IsNamedValue, IsNamedKey, IsNamedContent}
use Rattle.run_file_words.specs.Printed.{numbered_text, reference_text, value_text, key_text, content_text}
use Rattle.run_file.specs.Printed.{var_text, place_text, places_text, heap_text, instance_text, instances_text, contents_text}
use Rattle.run_file_words.specs.Values.{SpellsValue, BeginsWithContent}
use Rattle.run_file_words.proofs.PrintedWords.{var_word, IsWord, word_text, text_then, front_then, blank_behind}
use Rattle.run_file_words.proofs.PrintedValues.{value_is_spelled, value_word, reference_spelled, key_spelled, content_spelled, key_words, content_words}
use Rattle.run_file.proofs.PrintedMemos.{entry_lines, map_lines, var_lines}
use Rattle.run_file_words.proofs.SaidLines.{Says, says_nothing, says_then, line_said, keyword, HasNames, NamedAt, named_at, numbered, numbered_said}

-- ---- values

pub record GoodValue (u : Ty) (w : Value) : Type 0 where
  pub fits : FitsValue u w
  pub within : IsWithinValue w
  pub named : IsNamedValue w

pub good_spelled : {u : Ty} {w : Value} → GoodValue u w → SpellsValue u (value_text w) w
good_spelled {u} {w} h = subst (λ t. SpellsValue t (value_text w) w) h.fits.typed (value_is_spelled w h.fits.reduced h.within h.named)

heap_word : IsWord (codes "heap")
heap_word = record { some = omega arith; bytes = refl }

content_word : IsWord (codes "content")
content_word = record { some = omega arith; bytes = refl }

-- ---- variables

pub var_said : (s : UnitScope) (n : ℕ) (u : Ty) (w : Value) (a : NamedAt s.variables n u) → GoodValue u w → Says (IsLine s) (var_text a.name w) (var_lines n w)
var_said s n u w a h = by_test (value_eq w (default_of (type_of w))) where
  by_test : (b : Bool) → Says (IsLine s) (cond b [] (codes "var " ++ a.name ++ codes " " ++ value_text w ++ codes "\n")) (cond b [] (Var n w ∷ []))
  by_test true = says_nothing (IsLine s)
  by_test false =
      let spelled = good_spelled h in
      line_said (IsLine s) (codes "var " ++ a.name ++ codes " " ++ value_text w) (codes "var") (a.name ∷ value_text w ∷ []) (Var n w)
      (text_then (blank_behind (text_then (keyword var_word) (word_text a.word))) (word_text (value_word spelled))) refl (l.var a.has spelled)

-- ---- places

place_said : (s : UnitScope) (f r : ℕ) (u : Ty) (w : Value) (a : NamedAt s.fields f u) → IsNamed r → GoodValue u w → Says (IsLine s) (place_text a.name r w) (Heap f r w ∷ [])
place_said s f r u w a small h =
    let at = reference_spelled r small in let spelled = good_spelled h in
    line_said (IsLine s) (codes "heap " ++ a.name ++ codes " " ++ reference_text r ++ codes " " ++ value_text w) (codes "heap") (a.name ∷ reference_text r ∷ value_text w ∷ []) (Heap f r w)
    (text_then (blank_behind (text_then (blank_behind (text_then (keyword heap_word) (word_text a.word))) (word_text (value_word at)))) (word_text (value_word spelled))) refl (l.heap a.has at spelled)

places_said : (s : UnitScope) (f : ℕ) (u : Ty) (m : Map ℕ Value) (rs : List ℕ) (a : NamedAt s.fields f u) → All IsNamed rs → ((r : ℕ) → GoodValue u (get nat_cmp m r)) →
    Says (IsLine s) (places_text a.name m rs) (entry_lines nat_cmp Heap f m rs)
places_said s f u m [] a named good = says_nothing (IsLine s)
places_said s f u m (r ∷ rs) a named good =
    says_then (place_said s f r u (get nat_cmp m r) a (All-head IsNamed r rs named) (good r)) (places_said s f u m rs a (All-tail IsNamed r rs named) good)

-- ---- instances

record GoodContent (c : Content) : Type 0 where
  lowest : IsReducedContent c
  within : IsWithinContent c
  named : IsNamedContent c

record GoodKey (us : List Ty) (k : Key) : Type 0 where
  fits : FitsKey us k
  within : IsWithinKey k
  named : IsNamedKey k

instance_said : (s : UnitScope) (q : ℕ) (us : List Ty) (k : Key) (c : Content) (a : NamedAt s.predicates q us) → GoodKey us k → GoodContent c → Says (IsLine s) (instance_text a.name k c) (Holds q k c ∷ [])
instance_said s q us k c a g h =
    let key = key_spelled us k g.fits g.within g.named in
    let tree = content_spelled c h.lowest h.within.values h.named in
    line_said (IsLine s) (codes "content " ++ a.name ++ codes " " ++ key_text k ++ content_text c) (codes "content") (a.name ∷ (key_words k ++ content_words c)) (Holds q k c)
    (text_then (front_then (blank_behind (text_then (keyword content_word) (word_text a.word))) key.text) tree.text) refl
    (l.content a.has (key.spelled (content_words c)) (subst (λ ws. BeginsWithContent ws c []) (append-nil (content_words c)) (tree.spelled [])) h.within.small)

instances_said : (s : UnitScope) (q : ℕ) (us : List Ty) (m : Map Key Content) (ks : List Key) (a : NamedAt s.predicates q us) → All (FitsKey us) ks → All IsWithinKey ks → All IsNamedKey ks →
    ((k : Key) → GoodContent (get key_cmp m k)) → Says (IsLine s) (instances_text a.name m ks) (entry_lines key_cmp Holds q m ks)
instances_said s q us m [] a fits within named good = says_nothing (IsLine s)
instances_said s q us m (k ∷ ks) a fits within named good =
    says_then (instance_said s q us k (get key_cmp m k) a
    (record { fits = All-head (FitsKey us) k ks fits; within = All-head IsWithinKey k ks within; named = All-head IsNamedKey k ks named }) (good k))
    (instances_said s q us m ks a (All-tail (FitsKey us) k ks fits) (All-tail IsWithinKey k ks within) (All-tail IsNamedKey k ks named) good)

-- ---- variables, heaps and contents

pub variables_said : (s : UnitScope) (vs : List Value) → HasNames s.variables → FitsStore s.variables.types vs → All IsWithinValue vs → All IsNamedValue vs →
    Says (IsLine s) (numbered_text var_text s.variables.names 0 vs) (numbered var_lines 0 vs)
variables_said s vs names fits within named =
    numbered_said (IsLine s) var_text var_lines s.variables.names vs (λ i w e.
    let at = paired_back FitsValue s.variables.types vs i w fits e in
    let a = named_at s.variables names i at.0 at.1.0 in
    record { name = a.name; named = a.has.named; said = var_said s i at.0 w a (record { fits = at.1.1; within = found IsWithinValue vs i w within e; named = found IsNamedValue vs i w named e }) })

heap_said : (s : UnitScope) (f : ℕ) (u : Ty) (m : Map ℕ Value) (a : NamedAt s.fields f u) → FitsHeap u m → HasValues IsWithinValue m → HasEntries IsNamed IsNamedValue m →
    Says (IsLine s) (heap_text a.name m) (map_lines nat_cmp Heap f m)
heap_said s f u m a fits within named =
    places_said s f u m (keys m) a named.keys (λ r. record {
      fits = FitsMap-get exact_values.total m r fits (FitsValue-default u);
      within = get_has nat_cmp m r within;
      named = get_has nat_cmp m r named.values;
    })

pub heaps_said : (s : UnitScope) (ms : List (Map ℕ Value)) → HasNames s.fields → AllZip FitsHeap s.fields.types ms → All (HasValues IsWithinValue) ms → All (HasEntries IsNamed IsNamedValue) ms →
    Says (IsLine s) (numbered_text heap_text s.fields.names 0 ms) (numbered (map_lines nat_cmp Heap) 0 ms)
heaps_said s ms names fits within named =
    numbered_said (IsLine s) heap_text (map_lines nat_cmp Heap) s.fields.names ms (λ i m e.
    let at = paired_back FitsHeap s.fields.types ms i m fits e in
    let a = named_at s.fields names i at.0 at.1.0 in
    record { name = a.name; named = a.has.named; said = heap_said s i at.0 m a at.1.1 (found (HasValues IsWithinValue) ms i m within e) (found (HasEntries IsNamed IsNamedValue) ms i m named e) })

content_said : (s : UnitScope) (q : ℕ) (us : List Ty) (m : Map Key Content) (a : NamedAt s.predicates q us) → FitsContents us m → HasEntries IsWithinKey IsWithinContent m →
    HasEntries IsNamedKey IsNamedContent m → Says (IsLine s) (contents_text a.name m) (map_lines key_cmp Holds q m)
content_said s q us m a fits within named =
    instances_said s q us m (keys m) a fits.keys within.keys named.keys (λ k. record {
      lowest = FitsMap-get exact_contents.total m k fits tt;
      within = get_has key_cmp m k within.values;
      named = get_has key_cmp m k named.values;
    })

pub contents_said : (s : UnitScope) (ms : List (Map Key Content)) → HasNames s.predicates → AllZip FitsContents s.predicates.types ms → All (HasEntries IsWithinKey IsWithinContent) ms →
    All (HasEntries IsNamedKey IsNamedContent) ms → Says (IsLine s) (numbered_text contents_text s.predicates.names 0 ms) (numbered (map_lines key_cmp Holds) 0 ms)
contents_said s ms names fits within named =
    numbered_said (IsLine s) contents_text (map_lines key_cmp Holds) s.predicates.names ms (λ i m e.
    let at = paired_back FitsContents s.predicates.types ms i m fits e in
    let a = named_at s.predicates names i at.0 at.1.0 in
    record { name = a.name; named = a.has.named; said = content_said s i at.0 m a at.1.1 (found (HasEntries IsWithinKey IsWithinContent) ms i m within e) (found (HasEntries IsNamedKey IsNamedContent) ms i m named e) })
