-- Lists of literals, place by place.
use Rattle.std.proofs.Common.{◌≡◌, ◌⊎◌, inl, inr, ℕ, ◌+◌, ◌<◌, ◌≤◌, Some, List, [], ◌∷◌, ◌++◌, take, length, get_or, add-one, sym, ap, ◌∙◌}
use Rattle.std.proofs.Math.Seq.{take-suc}
use Rattle.std.proofs.lemmas.List.{take_all}
use Rattle.std.proofs.lemmas.Option.{slice_get-get_or}
use Rattle.cert_terms.specs.declared.terms.ClauseLiteral.{ClauseLiteral}
use Rattle.cert_rules.specs.Reasons.{yes, IsAmong, along, turned}

pub take_more : (ls ms : List ClauseLiteral) (i : ℕ) → i < length ls → i < length ms → take i ls ≡ take i ms → get_or ls i (yes 0) ≡ get_or ms i (yes 0) → take (i + 1) ls ≡ take (i + 1) ms
take_more ls ms i h g e f =
    let p : take (i + 1) ls ≡ take i ls ++ (get_or ls i (yes 0) ∷ []) = rw (add-one) (take-suc ls i (yes 0) h) in
    let q : take (i + 1) ms ≡ take i ms ++ (get_or ms i (yes 0) ∷ []) = rw (add-one) (take-suc ms i (yes 0) g) in
    p ∙ (λ j. e j ++ f j ∷ []) ∙ sym q

pub take_whole : (ls ms : List ClauseLiteral) (i : ℕ) → length ls ≤ i → length ms ≤ i → take i ls ≡ take i ms → ls ≡ ms
take_whole ls ms i h g e = sym (take_all i ls h) ∙ e ∙ take_all i ms g

pub among_at : (ls ms : List ClauseLiteral) (i : ℕ) (a b : ClauseLiteral) → i < length ls → i < length ms →
    ((a ≡ get_or ls i (yes 0)) × (b ≡ get_or ms i (yes 0))) ⊎ ((a ≡ get_or ms i (yes 0)) × (b ≡ get_or ls i (yes 0))) → IsAmong ls ms a b
among_at ls ms i a b h g (inl e) = along i (slice_get-get_or ls i (yes 0) h ∙ ap Some (sym e.0)) (slice_get-get_or ms i (yes 0) g ∙ ap Some (sym e.1))
among_at ls ms i a b h g (inr e) = turned i (slice_get-get_or ls i (yes 0) h ∙ ap Some (sym e.1)) (slice_get-get_or ms i (yes 0) g ∙ ap Some (sym e.0))
