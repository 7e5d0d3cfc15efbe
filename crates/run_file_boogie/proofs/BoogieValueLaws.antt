-- The parts of a key, taken off the front of words one after the other.
use Rattle.std.proofs.Common.{◌≡◌, ◌∙◌, ℕ, suc, List, [], ◌∷◌, ◌++◌, append_assoc, length, Option, Some, None, refl, sym, ap, arith}
use Rattle.std.specs.Option.{option_map}
use Rattle.std.proofs.lemmas.List.{append-nil}
use Rattle.std.proofs.lemmas.Option.{some_pair_parts}
use Rattle.vb_value.specs.declared.keys.KeyPart.{KeyPart}
use Rattle.boogie_tree.specs.Value.{Key, BScalar}
use Rattle.run_file_boogie.specs.BoogieReading.{part_of, part_from, with_part, parts_from, scalar_from, entry_behind, entry_from}

abbrev part_with : List (List ℕ) → KeyPart → KeyPart × List (List ℕ)
part_with words a = (a, words)

-- the parts in front, where the first is this one
pub record Taken (words : List (List ℕ)) (a : KeyPart) (rest : List (List ℕ)) : Type 0 where
  pub parts : parts_from words ≡ (a ∷ (parts_from rest).0, (parts_from rest).1)
  pub shorter : length words ≡ suc (length rest)

module _ (word next : List ℕ) (words : List (List ℕ)) (a : KeyPart) (rest : List (List ℕ)) where
  taken_by : (o : Option KeyPart) → part_of word ≡ o → option_map (part_with (next ∷ words)) o ≡ Some (a, rest) → Taken (word ∷ next ∷ words) a rest
  taken_by None is e = absurd cc
  taken_by (Some b) is e =
      let same = some_pair_parts b a (next ∷ words) rest e in
      record {
        parts = ap (λ o. with_part o (word ∷ next ∷ words) (parts_from (next ∷ words))) is ∙ (λ i. (same.0 i ∷ (parts_from (same.1 i)).0, (parts_from (same.1 i)).1));
        shorter = ap (λ ws. suc (length ws)) same.1;
      }

pub taken : (words : List (List ℕ)) (a : KeyPart) (rest : List (List ℕ)) → part_from words ≡ Some (a, rest) → Taken words a rest
taken [] a rest e = absurd cc
taken (word ∷ []) a rest e = absurd cc
taken (word ∷ next ∷ words) a rest e = taken_by word next words a rest (part_of word) refl e

none_taken_by : (word next : List ℕ) (words : List (List ℕ)) (o : Option KeyPart) → option_map (part_with (next ∷ words)) o ≡ None →
    with_part o (word ∷ next ∷ words) (parts_from (next ∷ words)) ≡ ([], word ∷ next ∷ words)
none_taken_by word next words None e = refl
none_taken_by word next words (Some a) e = absurd cc

pub none_taken : (words : List (List ℕ)) → part_from words ≡ None → parts_from words ≡ ([], words)
none_taken [] e = refl
none_taken (word ∷ []) e = refl
none_taken (word ∷ next ∷ words) e = none_taken_by word next words (part_of word) e

-- one more part is taken
pub part_more : (parts : Key) (a : KeyPart) (words rest : List (List ℕ)) (all : Key × List (List ℕ)) → Taken words a rest →
    (parts ++ (parts_from words).0, (parts_from words).1) ≡ all → ((parts ++ a ∷ []) ++ (parts_from rest).0, (parts_from rest).1) ≡ all
part_more parts a words rest all h so_far =
    (λ i. (append_assoc parts (a ∷ []) (parts_from rest).0 i, (parts_from rest).1)) ∙ ((λ i. (parts ++ (sym h.parts i).0, (sym h.parts i).1)) ∙ so_far)

-- no more part is
pub parts_end : (parts : Key) (words : List (List ℕ)) (all : Key × List (List ℕ)) → part_from words ≡ None →
    (parts ++ (parts_from words).0, (parts_from words).1) ≡ all → (parts, words) ≡ all
parts_end parts words all none so_far =
    (λ i. (sym (append-nil parts) i, words)) ∙ ((λ i. (parts ++ (sym (none_taken words none) i).0, (sym (none_taken words none) i).1)) ∙ so_far)

-- ---- entries

read_so : (words rest : List (List ℕ)) (parts : Key) → (parts, rest) ≡ parts_from words → entry_from words ≡ entry_behind (parts, rest)
unfolding entry_from
read_so words rest parts e = ap entry_behind (sym e)

no_part : (parts : Key) (rest : List (List ℕ)) → length parts ≡ 0 → entry_behind (parts, rest) ≡ None
no_part [] rest e = refl
no_part (a ∷ parts) rest e = absurd (omega (arith, e))

some_part : (parts : Key) (rest : List (List ℕ)) (o : Option BScalar) → (length parts ≡ 0 → ⊥) → o ≡ scalar_from rest →
    option_map (λ v. record { key = parts; value = v }) o ≡ entry_behind (parts, rest)
some_part [] rest o some e = absurd (some refl)
some_part (a ∷ parts) rest o some e = ap (option_map (λ v. record { key = a ∷ parts; value = v })) e

pub no_entry : (words rest : List (List ℕ)) (parts : Key) → part_from rest ≡ None → (parts ++ (parts_from rest).0, (parts_from rest).1) ≡ parts_from words → length parts ≡ 0 →
    None ≡ entry_from words
no_entry words rest parts none so_far empty = sym (read_so words rest parts (parts_end parts rest _ none so_far) ∙ no_part parts rest empty)

pub an_entry : (words rest : List (List ℕ)) (parts : Key) (o : Option BScalar) → part_from rest ≡ None → (parts ++ (parts_from rest).0, (parts_from rest).1) ≡ parts_from words →
    (length parts ≡ 0 → ⊥) → o ≡ scalar_from rest → option_map (λ v. record { key = parts; value = v }) o ≡ entry_from words
an_entry words rest parts o none so_far some e =
    some_part parts rest o some e ∙ sym (read_so words rest parts (parts_end parts rest _ none so_far))
