-- The names that are written for bound variables are fresh.
use Rattle.std.proofs.Common.{◌≡◌, ◌∙◌, refl, sym, ap, arith, ℕ, suc, ◌+◌, ◌^◌, ◌<◌, false, List, [], ◌∷◌, ◌++◌, length, length-append, filter}
use Rattle.std.specs.Prelude.{◌≢◌, All}
use Rattle.std.specs.Str.{bytes_eq}
use Rattle.std.proofs.lemmas.Bool.{both_ways, or_parts}
use Rattle.std.proofs.lemmas.List.Elements.{All-nil, All-cons, All-weaker}
use Rattle.std.proofs.lemmas.List.Kept.{AllPairs-cons}
use Rattle.lemmas.proofs.Bytes.{same_itself as equal}
use Rattle.vb_base.specs.Names.{NamesDiffer}
use Rattle.boogie_tree.specs.declared.exprs.BBase.{BBase}
use Rattle.boogie_grammar.specs.Words.{is_among}
use Rattle.boogie_grammar.specs.Printed.{free_number, free_name, bound_names, is_q, naming, under}
use Rattle.boogie_grammar.proofs.NamingLaws.{either}
use Rattle.boogie_print.specs.Fresh.{IsNumbered, AreFresh}
use Rattle.boogie_print.proofs.FreshLaws.{avoided, fewer, free_parts}

-- a name that may follow those chosen before it
record IsNext (locals chosen : List (List ℕ)) (name : List ℕ) : Type 0 where
  numbered : IsNumbered name
  new : is_among name locals ≡ false
  other : is_among name chosen ≡ false

free_is_next : (locals chosen : List (List ℕ)) → length locals + length chosen < 2 ^ 63 → IsNext locals chosen (free_name (filter is_q locals ++ chosen))
free_is_next locals chosen few =
    let all = filter is_q locals ++ chosen in
    let m = free_number (length all) 0 all in
    let f = fewer locals in
    let parts = free_parts (filter is_q locals) chosen (omega (arith, f, few)) in
    record { numbered = (m, refl); new = avoided m locals parts.0; other = parts.1 }

earlier : (locals chosen : List (List ℕ)) (q name : List ℕ) → IsNext locals (chosen ++ (q ∷ [])) name → IsNext locals chosen name
earlier locals chosen q name h = record {
  numbered = h.numbered;
  new = h.new;
  other = (or_parts (is_among name chosen) (is_among name (q ∷ [])) (sym (either name chosen (q ∷ [])) ∙ h.other)).0;
}

differs : (locals chosen : List (List ℕ)) (q name : List ℕ) → IsNext locals (chosen ++ (q ∷ [])) name → q ≢ name
differs locals chosen q name h same =
    let last = (or_parts (is_among name chosen) (is_among name (q ∷ [])) (sym (either name chosen (q ∷ [])) ∙ h.other)).1 in
    let unequal = (or_parts (bytes_eq name q) false last).0 in
    both_ways (bytes_eq name q) unequal (ap (bytes_eq name) same ∙ equal name)

all_next : (locals : List (List ℕ)) (us : List BBase) (chosen : List (List ℕ)) → length locals + (length chosen + length us) < 2 ^ 63 → All (IsNext locals chosen) (bound_names (filter is_q locals) chosen us)
all_next locals [] chosen few = All-nil (IsNext locals chosen)
all_next locals (u ∷ us) chosen few =
    let q = free_name (filter is_q locals ++ chosen) in
    let l = length-append chosen (q ∷ []) in
    let more = all_next locals us (chosen ++ (q ∷ [])) (omega (arith, l, few)) in
    All-cons (IsNext locals chosen) q _ (free_is_next locals chosen (omega (arith, few))) (All-weaker (IsNext locals (chosen ++ (q ∷ []))) (IsNext locals chosen) (earlier locals chosen q) _ more)

all_differ : (locals : List (List ℕ)) (us : List BBase) (chosen : List (List ℕ)) → length locals + (length chosen + length us) < 2 ^ 63 → NamesDiffer (bound_names (filter is_q locals) chosen us)
all_differ locals [] chosen few = λ i j d before lt. absurd (omega (arith, lt))
all_differ locals (u ∷ us) chosen few =
    let q = free_name (filter is_q locals ++ chosen) in
    let l = length-append chosen (q ∷ []) in
    let more : length locals + (length (chosen ++ (q ∷ [])) + length us) < 2 ^ 63 = omega (arith, l, few) in
    AllPairs-cons (λ a b. a ≢ b) q _ (All-weaker (IsNext locals (chosen ++ (q ∷ []))) (λ name. q ≢ name) (differs locals chosen q) _ (all_next locals us (chosen ++ (q ∷ [])) more)) (all_differ locals us (chosen ++ (q ∷ [])) more)

one_each : (taken : List (List ℕ)) (us : List BBase) (chosen : List (List ℕ)) → length (bound_names taken chosen us) ≡ length us
one_each taken [] chosen = refl
one_each taken (u ∷ us) chosen = ap suc (one_each taken us (chosen ++ (free_name (taken ++ chosen) ∷ [])))

pub binders_fresh : (locals : List (List ℕ)) (types : List BBase) → length locals + length types < 2 ^ 63 → AreFresh locals types (under (naming locals) types).bound
binders_fresh locals types few =
    let names = bound_names (filter is_q locals) [] types in
    let next = all_next locals types [] (omega (arith, few)) in
    record {
      each = one_each (filter is_q locals) types [];
      numbered = All-weaker (IsNext locals []) IsNumbered (λ name h. h.numbered) names next;
      new = All-weaker (IsNext locals []) (λ name. is_among name locals ≡ false) (λ name h. h.new) names next;
      differ = all_differ locals types [] (omega (arith, few));
    }
