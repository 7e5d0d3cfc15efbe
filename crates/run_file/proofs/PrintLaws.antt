-- What is printed of one thing more.
use Rattle.std.proofs.Common.{◌≡◌, ◌∙◌, ◌+◌, ◌<◌, ◌≤◌, ℕ, List, ◌++◌, length, map, drop, get_or, Option, Some, None, slice_get, refl, sym, ap, arith}
use Rattle.std.specs.Option.{option_map}
use Rattle.std.specs.Ordering.{nat_cmp}
use Rattle.std.proofs.lemmas.List.{drop_all, map-id, append-nil, length-map, get_or-map}
use Rattle.std.proofs.lemmas.Option.{slice_get-map}
use Rattle.lemmas.proofs.Lists.{drop_here}
use Rattle.sparse.specs.Map.{Map, get, keys}
use Rattle.sparse.proofs.MeaningLaws.{get-meaning_of, keys-meaning_of, IsMeaning-on}
use Rattle.vb_value.specs.Content.{same_content}
use Rattle.vb_value.specs.Key.{key_cmp}
use Rattle.vb_value.specs.View.{content_of}
use Rattle.vb_value.specs.declared.contents.Content.{Content}
use Rattle.vb_value.specs.declared.values.Value.{Value}
use Rattle.viper_core.specs.Program as p
use Rattle.viper_core.specs.View.{predicate_of}
use Rattle.viper_core.specs.declared.programs.Predicate.{Predicate}
use Rattle.viper_state.specs.State.{Key}
use Rattle.viper_state.specs.View.{contents_of}
use Rattle.run_file_words.proofs.PrintLaws.{regrouped}
use Rattle.run_file.specs.Printed.{place_text, places_text, instance_text, instances_text, contents_text}

pub places_more : (name : List ℕ) (m : Map ℕ Value) (n r : ℕ) (v : Value) (before now all : List ℕ) → before ++ places_text name m (drop n (keys m)) ≡ all →
    slice_get (keys m) n ≡ Some r → v ≡ get nat_cmp m r → now ≡ before ++ place_text name r v → now ++ places_text name m (drop (n + 1) (keys m)) ≡ all
places_more name m n r v before now all h there is put =
    regrouped before (place_text name r (get nat_cmp m r)) (places_text name m (drop (n + 1) (keys m))) all now
    (sym (ap (λ ks. before ++ places_text name m ks) (drop_here (keys m) n r there)) ∙ h)
    (put ∙ ap (λ x. before ++ place_text name r x) is)

pub instances_more : (name : List ℕ) (m : Map Key Content) (n : ℕ) (k : Key) (c : Content) (before now all : List ℕ) → before ++ instances_text name (contents_of m) (drop n (keys m)) ≡ all →
    slice_get (keys m) n ≡ Some k → c ≡ get key_cmp m k → now ≡ before ++ instance_text name k (content_of c) → now ++ instances_text name (contents_of m) (drop (n + 1) (keys m)) ≡ all
instances_more name m n k c before now all h there is put =
    let read : content_of c ≡ get key_cmp (contents_of m) k = ap content_of is ∙ sym (get-meaning_of (IsMeaning-on (λ k. k) content_of key_cmp same_content) m k) in
    regrouped before (instance_text name k (get key_cmp (contents_of m) k)) (instances_text name (contents_of m) (drop (n + 1) (keys m))) all now
    (sym (ap (λ ks. before ++ instances_text name (contents_of m) ks) (drop_here (keys m) n k there)) ∙ h)
    (put ∙ ap (λ x. before ++ instance_text name k x) read)

pub same_keys : (m : Map Key Content) → keys (contents_of m) ≡ keys m
same_keys m = keys-meaning_of (IsMeaning-on (λ k. k) content_of key_cmp same_content) m ∙ map-id (keys m)

pub predicate_name : (ds : List Predicate) (n : ℕ) (o : Option Predicate) → o ≡ slice_get ds n →
    option_map (λ d. (predicate_of d).name) o ≡ slice_get (map (λ (d : p.Predicate). d.name) (map predicate_of ds)) n
predicate_name ds n o e =
    ap (option_map (λ d. (predicate_of d).name)) e ∙ sym (slice_get-map (λ (d : p.Predicate). d.name) (map predicate_of ds) n ∙ (ap (option_map (λ (d : p.Predicate). d.name)) (slice_get-map predicate_of ds n) ∙ twice (slice_get ds n))) where
      twice : (o : Option Predicate) → option_map (λ (d : p.Predicate). d.name) (option_map predicate_of o) ≡ option_map (λ d. (predicate_of d).name) o
      twice None = refl
      twice (Some d) = refl

pub all_instances : (name : List ℕ) (m : Map Key Content) (n : ℕ) (now before : List ℕ) → length (keys m) ≤ n →
    now ++ instances_text name (contents_of m) (drop n (keys m)) ≡ before ++ instances_text name (contents_of m) (keys m) → now ≡ before ++ contents_text name (contents_of m)
all_instances name m n now before past h =
    sym (ap (λ ks. now ++ instances_text name (contents_of m) ks) (drop_all n (keys m) past) ∙ append-nil now) ∙
    (h ∙ ap (λ ks. before ++ instances_text name (contents_of m) ks) (sym (same_keys m)))

pub one_map : (maps : List (Map Key Content)) (n : ℕ) (m : Map Key Content) → n < length maps → m ≡ get_or maps n m → (n < length (map contents_of maps)) × (contents_of m ≡ get_or (map contents_of maps) n (contents_of m))
one_map maps n m within is = (omega (arith, within, length-map maps contents_of), ap contents_of is ∙ sym (get_or-map contents_of maps n m (contents_of m) within))
