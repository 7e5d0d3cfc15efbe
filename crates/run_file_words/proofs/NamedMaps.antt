-- What is said of the entries of a map is said of its keys and values.
use Rattle.std.proofs.Common.{◌≡◌, ◌∙◌, ◌+◌, ◌<◌, ◌≤◌, ℕ, Bool, List, [], ◌∷◌, ◌++◌, take, map, All, Some, length, get_or, slice_get, sym, ap, subst, arith}
use Rattle.std.specs.Cmp.{IsTotalOrder}
use Rattle.std.specs.declared.cmp.Ordering.{Ordering}
use Rattle.std.proofs.lemmas.List.{length-map, take_more}
use Rattle.std.proofs.lemmas.List.Elements.{All-append, All-cons, All-map, All-nil, All-weaker}
use Rattle.std.proofs.lemmas.Option.{slice_get_within, get_or_from_slice_get}
use Rattle.lemmas.proofs.Lists.{all_taken}
use Rattle.sparse.specs.Map.{Map, get, keys, values, IsReduced}
use Rattle.sparse.specs.Meaning.{meaning_of}
use Rattle.sparse.proofs.MapLaws.{get-keys}
use Rattle.run_file_words.specs.Named.{AreNamed}

pub take_named : {X : Type 0} (P : X → Type 0) (xs : List X) (i : ℕ) (x : X) → i < length xs → x ≡ get_or xs i x → All P (take i xs) → P x → All P (take (i + 1) xs)
take_named P xs i x within is so_far h =
    subst (All P) (sym (take_more xs i x within ∙ ap (λ y. take i xs ++ y ∷ []) (sym is)))
    (All-append P (take i xs) (x ∷ []) so_far (All-cons P x [] h (All-nil P)))

abbrev pub IsNamedPair : {K X : Type 0} → (K → Type 0) → (X → Type 0) → K × X → Type 0
IsNamedPair P Q e = P e.0 × Q e.1

module _ {K X : Type 0} (P : K → Type 0) (Q : X → Type 0) (m : Map K X) (i : ℕ) where
  -- one more entry, with the key of this index
  pub pair_more : {cmp : K → K → Ordering} {eq : X → X → Bool} → IsTotalOrder cmp → (k : K) (x : X) → IsReduced cmp eq m → slice_get (keys m) i ≡ Some k → x ≡ get cmp m k →
      All (IsNamedPair P Q) (take i m.entries) → P k → Q x → All (IsNamedPair P Q) (take (i + 1) m.entries)
  pair_more total k x reduced here read so_far key value =
      let there : slice_get m.entries i ≡ Some (k, x) = get-keys total m reduced i k here ∙ ap (λ z. Some (k, z)) (sym read) in
      take_named (IsNamedPair P Q) m.entries i (k, x) (slice_get_within m.entries i (k, x) there) (sym (get_or_from_slice_get m.entries i (k, x) (k, x) there)) so_far (key, value)

  all_pairs : length (keys m) ≤ i → All (IsNamedPair P Q) (take i m.entries) → All (IsNamedPair P Q) m.entries
  all_pairs past h = all_taken (IsNamedPair P Q) m.entries i (omega (arith, past, length-map m.entries (λ (e : K × X). e.0))) h

  pub are_named : length (keys m) ≤ i → All (IsNamedPair P Q) (take i m.entries) → AreNamed P Q m
  are_named past h =
      let all = all_pairs past h in
      record {
        keys = All-map P (λ (e : K × X). e.0) m.entries (All-weaker (IsNamedPair P Q) (λ (e : K × X). P e.0) (λ e both. both.0) m.entries all);
        values = All-map Q (λ (e : K × X). e.1) m.entries (All-weaker (IsNamedPair P Q) (λ (e : K × X). Q e.1) (λ e both. both.1) m.entries all);
      }

-- the same of a map whose values are seen as others
pub seen_named : {K X V : Type 0} (P : K → Type 0) (Q : V → Type 0) (view : X → V) (m : Map K X) (i : ℕ) → length (keys m) ≤ i →
    All (IsNamedPair P (λ x. Q (view x))) (take i m.entries) → AreNamed P Q (meaning_of (λ k. k) view m)
seen_named {K} {X} {V} P Q view m i past h =
    let pair : K × X → K × V = λ e. (e.0, view e.1) in
    let all = all_pairs P (λ x. Q (view x)) m i past h in
    record {
      keys = All-map P (λ (e : K × V). e.0) (map pair m.entries) (All-map (λ (e : K × V). P e.0) pair m.entries (All-weaker (IsNamedPair P (λ x. Q (view x))) (λ (e : K × X). P e.0) (λ e both. both.0) m.entries all));
      values = All-map Q (λ (e : K × V). e.1) (map pair m.entries) (All-map (λ (e : K × V). Q e.1) pair m.entries (All-weaker (IsNamedPair P (λ x. Q (view x))) (λ (e : K × X). Q (view e.1)) (λ e both. both.1) m.entries all));
    }
