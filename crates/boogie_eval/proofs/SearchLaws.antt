-- A quantifier is what the search of its keys finds, in whatever order.
use Rattle.std.proofs.Common.{◌≡◌, refl, sym, ap, ◌∙◌, Bool as Truth, true, false, List, [], ◌∷◌, if◌then◌else◌}
use Rattle.vb_value.specs.Bound.{Bounded}
use Rattle.boogie_tree.specs.Expr as t
use Rattle.boogie_tree.specs.Value.{Key, BValue}
use Rattle.boogie_tree.specs.declared.exprs.BBase.{BBase}
use Rattle.boogie_meaning.specs.Decided.{worst, scan, is_listed, decided}
use Rattle.boogie_meaning.specs.Ends.{End, Is, Over, Wrong}
use Rattle.boogie_meaning.specs.Marked.{marked, elsewhere, value_off}
use Rattle.boogie_meaning.specs.Operators.{as_truth}
use Rattle.boogie_meaning.specs.Quantified.{quantified}
use Rattle.boogie_meaning.specs.Value.{value, body_at}
use Rattle.boogie_tree.specs.Values.{fits_key}
use Rattle.boogie_meaning.proofs.ForallLaws.{one_forall}
use Rattle.boogie_eval.specs.Searched.{end_elsewhere, with_key, with_keys}

worst_true : (e : End Truth) → e ≡ worst (Is true) e
worst_true (Is p) = refl
worst_true Over = refl
worst_true Wrong = refl

worst_turns : (e f : End Truth) → worst e f ≡ worst f e
worst_turns Over Over = refl
worst_turns Over Wrong = refl
worst_turns Over (Is q) = refl
worst_turns Wrong Over = refl
worst_turns Wrong Wrong = refl
worst_turns Wrong (Is q) = refl
worst_turns (Is p) Over = refl
worst_turns (Is p) Wrong = refl
worst_turns (Is true) (Is true) = refl
worst_turns (Is true) (Is false) = refl
worst_turns (Is false) (Is true) = refl
worst_turns (Is false) (Is false) = refl

worst_joins : (e f g : End Truth) → worst (worst e f) g ≡ worst e (worst f g)
worst_joins Over f g = refl
worst_joins Wrong Over g = refl
worst_joins Wrong Wrong Over = refl
worst_joins Wrong Wrong Wrong = refl
worst_joins Wrong Wrong (Is r) = refl
worst_joins Wrong (Is q) Over = refl
worst_joins Wrong (Is q) Wrong = refl
worst_joins Wrong (Is q) (Is r) = refl
worst_joins (Is p) Over g = refl
worst_joins (Is p) Wrong Over = refl
worst_joins (Is p) Wrong Wrong = refl
worst_joins (Is p) Wrong (Is r) = refl
worst_joins (Is p) (Is q) Over = refl
worst_joins (Is p) (Is q) Wrong = refl
worst_joins (Is true) (Is q) (Is r) = refl
worst_joins (Is false) (Is q) (Is r) = refl

in_turn : (fits : Truth) (b s e : End Truth) → worst s (if fits then worst b e else e) ≡ worst (if fits then worst b s else s) e
in_turn true b s e = sym (worst_joins s b e) ∙ ap (λ f. worst f e) (worst_turns s b)
in_turn false b s e = refl

pub with_keys_is : (us : List BBase) (body : Key → End Truth) (ks : List Key) (e : End Truth) → with_keys us body ks e ≡ worst (scan us body ks) e
with_keys_is us body [] e = worst_true e
with_keys_is us body (k ∷ ks) e = with_keys_is us body ks (with_key us body k e) ∙ in_turn (fits_key us k) (body k) (scan us body ks) e

-- any list of the keys that are marked serves
pub quantified_is : (us : List BBase) (a : t.BExpr) (env : List BValue) (ks : List Key) → ((k : Key) → is_listed ks k ≡ is_listed (marked a env) k) →
    (quantified Bounded us a env).0 ≡ with_keys us (body_at Bounded a env) ks (end_elsewhere us a env ks)
quantified_is us a env ks same =
    let body = body_at Bounded a env in
    let rest = as_truth (value Bounded elsewhere a env) in
    one_forall (quantified Bounded us a env).1 (decided us body ks rest (λ k f h. ap as_truth (value_off Bounded a env k (sym (same k) ∙ h)))) ∙
    sym (with_keys_is us body ks (end_elsewhere us a env ks))
