-- Names that differ, put into a table one by one.
use Rattle.std.proofs.Common.{◌≡◌, ◌≢◌, ◌∙◌, ◌+◌, ◌<◌, ℕ, suc, false, List, [], ◌∷◌, ◌++◌, length, take, get_or, refl, sym, ap, arith}
use Rattle.std.specs.List.{list_any}
use Rattle.std.specs.Str.{bytes_eq}
use Rattle.std.proofs.lemmas.Bool.{cond-false}
use Rattle.std.proofs.lemmas.List.{take_more, get_or-take, length-take-le}
use Rattle.std.proofs.lemmas.Slice.Eq.{bytes_eq-Decides}
use Rattle.lemmas.proofs.Tests.{refuted}
use Rattle.symbol_table.specs.Names.{with_name}
use Rattle.vb_base.specs.Names.{NamesDiffer}

-- what equals none of the names
none_equal : (x : List ℕ) (ks : List (List ℕ)) → ((k : ℕ) → k < length ks → get_or ks k [] ≢ x) → list_any (bytes_eq x) ks ≡ false
none_equal x [] differ = refl
none_equal x (y ∷ ys) differ =
    rw (refuted (bytes_eq x y) (bytes_eq-Decides x y) (λ e. differ 0 (omega arith) (sym e)))
    (none_equal x ys (λ k h. differ (suc k) (omega arith)))

pub one_more_name : (names keys : List (List ℕ)) (i : ℕ) (name : List ℕ) → NamesDiffer names → i < length names → keys ≡ take i names → name ≡ get_or names i [] →
    with_name keys name ≡ take (i + 1) names
one_more_name names keys i name differ within e is =
    let long : length (take i names) ≡ i = length-take-le i names (omega arith) in
    let absent : list_any (bytes_eq name) keys ≡ false =
    rw e (none_equal name (take i names) (λ k h. λ same. differ k i [] (omega (arith, h, long)) within (sym (get_or-take i names k [] (omega (arith, h, long))) ∙ (same ∙ is)))) in
    cond-false (list_any (bytes_eq name) keys) keys (keys ++ name ∷ []) absent ∙ (ap (λ ks. ks ++ name ∷ []) e ∙ (ap (λ x. take i names ++ x ∷ []) is ∙ sym (take_more names i [] within)))
