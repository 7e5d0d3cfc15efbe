-- What is printed of one thing more of a run of Boogie.
use Rattle.std.proofs.Common.{◌≡◌, ◌∙◌, ◌+◌, ◌<◌, ℕ, zero, suc, List, [], ◌∷◌, ◌++◌, length, map, replicate, take, drop, get_or, slice_get, slice_set, Option, Some, None, refl, sym, ap, arith}
use Rattle.std.specs.Ordering.{on}
use Rattle.std.specs.Prelude.{fold}
use Rattle.std.specs.Option.{option_map}
use Rattle.std.proofs.lemmas.List.{length-map, map-set, get_or-map, take_more}
use Rattle.std.proofs.lemmas.List.Sums.{fold-append}
use Rattle.std.proofs.lemmas.Option.{slice_get-map, slice_get-get_or, slice_get_within, get_or_from_slice_get}
use Rattle.lemmas.proofs.Lists.{drop_here}
use Rattle.sparse.specs.Map.{Map, get, keys, IsReduced}
use Rattle.vb_value.specs.Key.{key_cmp}
use Rattle.boogie_tree.specs.Value as v
use Rattle.boogie_tree.specs.Value.{Key, same_scalar}
use Rattle.boogie_tree.specs.Whole.{scalar_of, setting_of, value_of}
use Rattle.boogie_tree.specs.declared.values.BScalar.{BScalar}
use Rattle.boogie_tree.specs.declared.values.BSetting.{BSetting}
use Rattle.run_file_boogie.specs.BoogiePrinted.{entry_text, entries_text, given_text, given_with, given}
use Rattle.run_file_boogie.specs.BoogieRun.{entries_of}
use Rattle.run_file_boogie.specs.BoogieView.{filling_of, found_value, found_values}
use Rattle.run_file_words.specs.Printed.{named_text, numbered_text}
use Rattle.run_file_boogie.proofs.BoogieMapLaws.{entry_there}
use Rattle.run_file_words.proofs.PrintLaws.{regrouped, numbered_more}

pub filled_more : (m : Map Key BScalar) (i : ℕ) (k : Key) (x : BScalar) (before now all : List ℕ) → IsReduced key_cmp (on scalar_of same_scalar) m →
    before ++ entries_text (drop i (entries_of (filling_of m))) ≡ all → slice_get (keys m) i ≡ Some k → x ≡ get key_cmp m k →
    now ≡ before ++ entry_text (record { key = k; value = scalar_of x }) → now ++ entries_text (drop (i + 1) (entries_of (filling_of m))) ≡ all
filled_more m i k x before now all reduced h here read put =
    let e : v.Entry = record { key = k; value = scalar_of x } in
    regrouped before (entry_text e) (entries_text (drop (i + 1) (entries_of (filling_of m)))) all now
    (sym (ap (λ es. before ++ entries_text es) (drop_here (entries_of (filling_of m)) i e (entry_there m i k x reduced here read))) ∙ h) put

-- ---- settings

pub none_found : (ss : List BSetting) (n : ℕ) (places : List (Option ℕ)) → places ≡ replicate n None → found_values ss places ≡ replicate n None
none_found ss n places e = ap (found_values ss) e ∙ each n where
  each : (n : ℕ) → found_values ss (replicate n None) ≡ replicate n None
  each zero = refl
  each (suc n) = ap (λ vs. None ∷ vs) (each n)

pub placed_more : (ss : List BSetting) (n i : ℕ) (s : BSetting) (places now : List (Option ℕ)) → i < length ss → s ≡ get_or ss i s →
    found_values ss places ≡ given n (take i (map setting_of ss)) → now ≡ slice_set places s.var (Some i) → found_values ss now ≡ given n (take (i + 1) (map setting_of ss))
placed_more ss n i s places now within is so_far set =
    let all = map setting_of ss in
    let there : slice_get all i ≡ Some (setting_of s) = slice_get-map setting_of ss i ∙ ap (option_map setting_of) (slice_get-get_or ss i s within ∙ ap Some (sym is)) in
    let value : found_value ss (Some i) ≡ Some (value_of s.value) = ap (option_map (λ (x : v.BSetting). x.value)) there in
    ap (found_values ss) set ∙ (map-set (found_value ss) places s.var (Some i) ∙
    ((λ j. slice_set (so_far j) s.var (value j)) ∙
    (sym (fold-append given_with (replicate n None) (take i all) (setting_of s ∷ [])) ∙
    ap (fold given_with (replicate n None)) (ap (λ x. take i all ++ x ∷ []) (sym (get_or_from_slice_get all i (setting_of s) (setting_of s) there)) ∙ sym (take_more all i (setting_of s) (slice_get_within all i (setting_of s) there))))))

pub settings_more : (names : List (List ℕ)) (ss : List BSetting) (places : List (Option ℕ)) (i : ℕ) (p : Option ℕ) (before now all : List ℕ) (o : Option (List ℕ)) →
    before ++ numbered_text given_text names i (drop i (found_values ss places)) ≡ all → i < length places → p ≡ get_or places i p → o ≡ slice_get names i →
    now ≡ before ++ named_text given_text o (found_value ss p) → now ++ numbered_text given_text names (i + 1) (drop (i + 1) (found_values ss places)) ≡ all
settings_more names ss places i p before now all o h within is named put =
    numbered_more given_text names i (found_values ss places) (found_value ss p) before now all o h (omega (arith, within, length-map places (found_value ss)))
    (ap (found_value ss) is ∙ sym (get_or-map (found_value ss) places i p (found_value ss p) within)) named put
