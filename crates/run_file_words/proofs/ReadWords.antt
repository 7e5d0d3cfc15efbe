-- What is read of the words of a line: names that differ, keys, and words of one type.
use Rattle.std.proofs.Common.{◌≡◌, ◌∙◌, ◌≤◌, ◌==◌, ℕ, Bool, true, false, cond, List, [], ◌∷◌, length, get_or, Option, Some, None, slice_get, refl, sym, ap, subst, arith}
use Rattle.std.specs.Prelude.{find, nat_lt}
use Rattle.std.specs.List.{position_or_len}
use Rattle.std.specs.Cmp.Lexicographic.{pointwise}
use Rattle.std.specs.Option.{option_map}
use Rattle.std.specs.Str.{bytes_eq}
use Rattle.std.proofs.lemmas.Bool.{ltb-false}
use Rattle.std.proofs.lemmas.List.Quantifiers.{position-Some}
use Rattle.std.proofs.lemmas.List.Sums.{fails_before_first}
use Rattle.std.proofs.lemmas.Option.{some_pair_parts, slice_get_within, get_or_from_slice_get, slice_get-get_or}
use Rattle.std.proofs.lemmas.Slice.Eq.{bytes_eq-Decides}
use Rattle.lemmas.proofs.Options.{some_same}
use Rattle.vb_base.specs.Names.{NamesDiffer}
use Rattle.vb_base.proofs.NameLaws.{place_of_name}
use Rattle.vb_value.specs.Fraction.{Fraction}
use Rattle.vb_value.specs.declared.keys.KeyPart.{KeyPart}
use Rattle.vb_value.specs.declared.values.Ty.{Ty}
use Rattle.vb_value.specs.declared.values.Ty.TheVariants as ty
use Rattle.vb_value.specs.declared.values.Value.{Value}
use Rattle.vb_value.specs.declared.values.Value.TheVariants.{Int, Bool as Truth, Ref, Perm}
use Rattle.viper_state.specs.State.{Key}
use Rattle.run_file_words.specs.Values as v
use Rattle.run_file_words.specs.Values.{SpellsValue, IsArgument, BeginsWithKey}
use Rattle.run_file_words.specs.Known.{Known, HasName}
use Rattle.run_file_words.specs.Reading.{◌>>=◌, named_line, keyword_from, argument_of, key_from, after_parts, number_of, single, value_of, truth, reference, fraction}
use Rattle.run_file_words.proofs.ValueLaws.{mapped_some, value_spelled, spelled_value}

-- ---- names

there_by : (o : Option ℕ) (names : List (List ℕ)) (n : ℕ) (name : List ℕ) → NamesDiffer names → slice_get names n ≡ Some name → number_of names name ≡ o → o ≡ Some n
there_by (Some m) names n name differ there is =
    let found = position-Some (pointwise ◌==◌ name) names m [] is in
    let same = (bytes_eq-Decides name (get_or names m [])).0 found.1 in
    ap Some (place_of_name names differ m n name (slice_get-get_or names m [] found.0 ∙ ap Some (sym same)) there)
there_by None names n name differ there is =
    let p = pointwise ◌==◌ name in
    let past : length names ≤ position_or_len p names = ltb-false _ _ (none_past (nat_lt (position_or_len p names) (length names)) (position_or_len p names) is) in
    let missed = fails_before_first p names n [] (omega (arith, past, slice_get_within names n name there)) in
    let here = (bytes_eq-Decides name (get_or names n [])).1 (sym (get_or_from_slice_get names n name [] there)) in
    absurd (both_tests missed here)
  where
    none_past : (t : Bool) (i : ℕ) → cond t (Some i) None ≡ None → t ≡ false
    none_past true i e = absurd cc
    none_past false i e = refl

    both_tests : {b : Bool} → b ≡ false → b ≡ true → ⊥
    both_tests e f = cc

pub number_found : (names : List (List ℕ)) (n : ℕ) (name : List ℕ) → NamesDiffer names → slice_get names n ≡ Some name → number_of names name ≡ Some n
number_found names n name differ there = there_by (number_of names name) names n name differ there refl

pub found_number : (names : List (List ℕ)) (n : ℕ) (name : List ℕ) → number_of names name ≡ Some n → slice_get names n ≡ Some name
found_number names n name is =
    let found = position-Some (pointwise ◌==◌ name) names n [] is in
    let same = (bytes_eq-Decides name (get_or names n [])).0 found.1 in
    slice_get-get_or names n [] found.0 ∙ ap Some (sym same)

-- ---- keys

pub argument_spelled : {x : Value} {a : KeyPart} → IsArgument x a → argument_of x ≡ Some a
argument_spelled v.int = refl
argument_spelled v.truth = refl
argument_spelled v.reference = refl

pub spelled_argument : (x : Value) (a : KeyPart) → argument_of x ≡ Some a → IsArgument x a
spelled_argument (Int n) a e = subst (IsArgument (Int n)) (some_same e) v.int
spelled_argument (Truth b) a e = subst (IsArgument (Truth b)) (some_same e) v.truth
spelled_argument (Ref r) a e = subst (IsArgument (Ref r)) (some_same e) v.reference
spelled_argument (Perm q) a e = absurd cc

abbrev argument_with : List (List ℕ) → KeyPart → KeyPart × List (List ℕ)
argument_with ws a = (a, ws)

pub key_read : {us : List Ty} {ws rest : List (List ℕ)} {k : Key} → BeginsWithKey us ws k rest → key_from us ws ≡ Some (k, rest)
key_read v.none = refl
key_read (v.more h g tail) = rw (value_spelled h, argument_spelled g, key_read tail) refl

module _ (u : Ty) (us : List Ty) (w : List ℕ) (ws : List (List ℕ)) (k : Key) (rest : List (List ℕ))
    (rec : (j : Key) (more : List (List ℕ)) → key_from us ws ≡ Some (j, more) → BeginsWithKey us ws j more) where
  key_by_rest : (a : KeyPart) (x : Value) → SpellsValue u w x → IsArgument x a → (o : Option (Key × List (List ℕ))) → key_from us ws ≡ o →
      after_parts (a ∷ []) o ≡ Some (k, rest) → BeginsWithKey (u ∷ us) (w ∷ ws) k rest
  key_by_rest a x h g None is e = absurd cc
  key_by_rest a x h g (Some r) is e =
      let parts = some_pair_parts (a ∷ r.0) k r.1 rest e in
      subst (λ y. BeginsWithKey (u ∷ us) (w ∷ ws) y rest) parts.0 (subst (λ y. BeginsWithKey (u ∷ us) (w ∷ ws) (a ∷ r.0) y) parts.1 (v.more h g (rec r.0 r.1 is)))

  key_by_argument : (x : Value) → SpellsValue u w x → (o : Option KeyPart) → argument_of x ≡ o →
      (option_map (argument_with ws) o >>= (λ a. after_parts (a.0 ∷ []) (key_from us a.1))) ≡ Some (k, rest) → BeginsWithKey (u ∷ us) (w ∷ ws) k rest
  key_by_argument x h None is e = absurd cc
  key_by_argument x h (Some a) is e = key_by_rest a x h (spelled_argument x a is) (key_from us ws) refl e

  key_by_value : (o : Option Value) → value_of u w ≡ o →
      (option_map (argument_with ws) (o >>= argument_of) >>= (λ a. after_parts (a.0 ∷ []) (key_from us a.1))) ≡ Some (k, rest) → BeginsWithKey (u ∷ us) (w ∷ ws) k rest
  key_by_value None is e = absurd cc
  key_by_value (Some x) is e = key_by_argument x (spelled_value u w x is) (argument_of x) refl e

pub read_key : (us : List Ty) (ws : List (List ℕ)) (k : Key) (rest : List (List ℕ)) → key_from us ws ≡ Some (k, rest) → BeginsWithKey us ws k rest
read_key [] ws k rest e =
    let parts = some_pair_parts [] k ws rest e in
    subst (λ x. BeginsWithKey [] ws x rest) parts.0 (subst (λ x. BeginsWithKey [] ws [] x) parts.1 v.none)
read_key (u ∷ us) [] k rest e = absurd cc
read_key (u ∷ us) (w ∷ ws) k rest e = key_by_value u us w ws k rest (read_key us ws) (value_of u w) refl e

-- ---- one word

-- what is behind `Some` of one type
pub truth_spelled : {word : List ℕ} {b : Bool} → SpellsValue ty.Bool word (Truth b) → truth word ≡ Some b
truth_spelled {word = word} {b = b} h = mapped_some Truth (truth word) (Truth b) (value_spelled h) (λ x is same. is ∙ ap Some cc)

pub reference_spelled : {word : List ℕ} {r : ℕ} → SpellsValue ty.Ref word (Ref r) → reference word ≡ Some r
reference_spelled {word = word} {r = r} h = mapped_some Ref (reference word) (Ref r) (value_spelled h) (λ x is same. is ∙ ap Some cc)

pub fraction_spelled : {word : List ℕ} {q : Fraction} → SpellsValue ty.Perm word (Perm q) → fraction word ≡ Some q
fraction_spelled {word = word} {q = q} h = mapped_some Perm (fraction word) (Perm q) (value_spelled h) (λ x is same. is ∙ ap Some cc)

pub single_is : (words : List (List ℕ)) (word : List ℕ) → single words ≡ Some word → words ≡ word ∷ []
single_is [] word e = absurd cc
single_is (w ∷ []) word e = ap (λ x. x ∷ []) (some_same e)
single_is (w ∷ x ∷ ws) word e = absurd cc

-- ---- the first word, and a name behind it

first_has : {K : Type 0} (text : K → List ℕ) (ks : List K) (word : List ℕ) (k : K) → find (λ j. bytes_eq word (text j)) ks ≡ Some k → word ≡ text k
first_has text [] word k e = absurd cc
first_has text (j ∷ ks) word k e = by_test (bytes_eq word (text j)) (bytes_eq-Decides word (text j)).0 (first_has text ks word k) e where
  by_test : (b : Bool) → (b ≡ true → word ≡ text j) → (find (λ i. bytes_eq word (text i)) ks ≡ Some k → word ≡ text k) → cond b (Some j) (find (λ i. bytes_eq word (text i)) ks) ≡ Some k → word ≡ text k
  by_test true same later e = same refl ∙ ap text (some_same e)
  by_test false same later e = later e

abbrev keyword_with : {K : Type 0} → List (List ℕ) → K → K × List (List ℕ)
keyword_with words k = (k, words)

-- a line by its first word, where the lines behind each of these words are spelled
pub spelled_first : {K L : Type 0} (text : K → List ℕ) (ks : List K) (keyed : K → List (List ℕ) → Option L) (Is : List (List ℕ) → L → Type 0) →
    ((k : K) (words : List (List ℕ)) (x : L) → keyed k words ≡ Some x → Is (text k ∷ words) x) →
    (words : List (List ℕ)) (x : L) → (keyword_from text ks words >>= (λ k. keyed k.0 k.1)) ≡ Some x → Is words x
unfolding keyword_from
spelled_first text ks keyed Is go [] x e = absurd cc
spelled_first {K = K} text ks keyed Is go (word ∷ words) x e = by_keyword (find (λ k. bytes_eq word (text k)) ks) refl e where
  by_keyword : (o : Option K) → find (λ k. bytes_eq word (text k)) ks ≡ o → (option_map (keyword_with words) o >>= (λ k. keyed k.0 k.1)) ≡ Some x → Is (word ∷ words) x
  by_keyword None is e = absurd cc
  by_keyword (Some k) is e = subst (λ w. Is (w ∷ words) x) (sym (first_has text ks word k is)) (go k words x e)

pub named_is : {T L : Type 0} (line : ℕ → Option T → List (List ℕ) → Option L) (k : Known T) (n : ℕ) (name : List ℕ) (t : T) (words : List (List ℕ)) → NamesDiffer k.names → HasName k n name t →
    named_line line k (name ∷ words) ≡ line n (Some t) words
named_is line k n name t words differ h = rw (number_found k.names n name differ h.named, h.typed) refl

abbrev number_with : List (List ℕ) → ℕ → ℕ × List (List ℕ)
number_with rest n = (n, rest)

-- a line with a name
pub spelled_named : {T L : Type 0} (Is : List (List ℕ) → L → Type 0) (first : List ℕ) (line : ℕ → Option T → List (List ℕ) → Option L) (k : Known T) (words : List (List ℕ)) (x : L) → named_line line k words ≡ Some x →
    ((n : ℕ) (name : List ℕ) (rest : List (List ℕ)) → slice_get k.names n ≡ Some name → line n (slice_get k.types n) rest ≡ Some x → Is (first ∷ name ∷ rest) x) → Is (first ∷ words) x
spelled_named Is first line k [] x e go = absurd cc
spelled_named Is first line k (name ∷ rest) x e go = by_number (number_of k.names name) refl e where
  by_number : (o : Option ℕ) → number_of k.names name ≡ o → (option_map (number_with rest) o >>= (λ n. line n.0 (slice_get k.types n.0) n.1)) ≡ Some x → Is (first ∷ name ∷ rest) x
  by_number None is e = absurd cc
  by_number (Some n) is e = go n name rest (found_number k.names n name is) e
