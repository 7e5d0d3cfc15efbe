-- Quantifiers: each has one end, equal bodies have equal ends, and the marked keys decide.
use Rattle.std.proofs.Common.{◌≡◌, ℕ, ◌+◌, ◌≤◌, pos, Bool as Truth, true, false, not, List, [], ◌∷◌, All, inl, inr, refl, sym, ap, subst, ◌∙◌, arith}
use Rattle.std.proofs.lemmas.List.Elements.{All-nil, All-cons}
use Rattle.vb_value.specs.Bound.{Bound}
use Rattle.boogie_tree.specs.Expr as t
use Rattle.boogie_tree.specs.Value.{Key, BValue}
use Rattle.boogie_tree.specs.declared.exprs.BBase.{BBase}
use Rattle.boogie_tree.specs.declared.exprs.BBase.TheVariants as base
use Rattle.vb_value.specs.declared.keys.KeyPart.TheVariants as part
use Rattle.boogie_meaning.specs.Ends.{End, Is, Over, Wrong}
use Rattle.boogie_meaning.specs.Operators.{as_truth}
use Rattle.boogie_tree.specs.Values.{FitsKey, are_keys}
use Rattle.boogie_meaning.specs.Value.{body_at}
use Rattle.boogie_meaning.specs.Forall.{IsTruth, is, IsForall, over, wrong, fails, holds}
use Rattle.boogie_meaning.specs.Decided.{is_listed, size, total, sample, large-step}
use Rattle.boogie_meaning.specs.Marked.{marked, value_off, AtMarked, AtMarkedOr}

pub truth_not_over : {e : End Truth} → IsTruth e → e ≡ Over → ⊥
truth_not_over (is p) h = absurd (cc)

pub truth_not_wrong : {e : End Truth} → IsTruth e → e ≡ Wrong → ⊥
truth_not_wrong (is p) h = absurd (cc)

module _ {K : Type 0} {P : K → Type 0} {body : K → End Truth} where
  pub one_forall : {v w : End Truth} → IsForall P body v → IsForall P body w → v ≡ w
  one_forall (over k p e) (over j q d) = refl
  one_forall (over k p e) (wrong g j q d) = absurd (g k p e)
  one_forall (over k p e) (fails g j q d) = absurd (truth_not_over (g k p) e)
  one_forall (over k p e) (holds g) = let d = g k p in absurd (cc)
  one_forall (wrong f k p e) (over j q d) = absurd (f j q d)
  one_forall (wrong f k p e) (wrong g j q d) = refl
  one_forall (wrong f k p e) (fails g j q d) = absurd (truth_not_wrong (g k p) e)
  one_forall (wrong f k p e) (holds g) = let d = g k p in absurd (cc)
  one_forall (fails f k p e) (over j q d) = absurd (truth_not_over (f j q) d)
  one_forall (fails f k p e) (wrong g j q d) = absurd (truth_not_wrong (f j q) d)
  one_forall (fails f k p e) (fails g j q d) = refl
  one_forall (fails f k p e) (holds g) = let d = g k p in absurd (cc)
  one_forall (holds f) (over j q d) = let e = f j q in absurd (cc)
  one_forall (holds f) (wrong g j q d) = let e = f j q in absurd (cc)
  one_forall (holds f) (fails g j q d) = let e = f j q in absurd (cc)
  one_forall (holds f) (holds g) = refl

  -- a quantifier is true just where its body is true at each key
  pub forall_true : IsForall P body (Is true) → (k : K) → P k → body k ≡ Is true
  forall_true h = true_at h refl
    where
      true_at : {v : End Truth} → IsForall P body v → v ≡ Is true → (k : K) → P k → body k ≡ Is true
      true_at (over k p e) d = absurd (cc)
      true_at (wrong f k p e) d = absurd (cc)
      true_at (fails f k p e) d = absurd (cc)
      true_at (holds f) d = f

-- with bodies that have the same ends
pub same_bodies : {K : Type 0} {P : K → Type 0} {f g : K → End Truth} {v : End Truth} → ((k : K) → P k → f k ≡ g k) → IsForall P f v → IsForall P g v
same_bodies s (over k p e) = over k p (sym (s k p) ∙ e)
same_bodies s (wrong h k p e) = wrong (λ j q d. h j q (s j q ∙ d)) k p (sym (s k p) ∙ e)
same_bodies s (fails h k p e) = fails (λ j q. subst IsTruth (s j q) (h j q)) k p (sym (s k p) ∙ e)
same_bodies s (holds h) = holds (λ j q. sym (s j q) ∙ h j q)

-- over keys at which the body has each end that it has
pub as_at : {K : Type 0} {P Q : K → Type 0} {body : K → End Truth} {v : End Truth} → ((k : K) → P k → Q k) →
    ((k : K) → Q k → (j : K) × P j × (body k ≡ body j)) → IsForall P body v → IsForall Q body v
as_at f g (over k p e) = over k (f k p) e
as_at f g (wrong h k p e) = wrong (λ j q d. let r = g j q in h r.0 r.1 (sym r.2 ∙ d)) k (f k p) e
as_at f g (fails h k p e) = fails (λ j q. let r = g j q in subst IsTruth (sym r.2) (h r.0 r.1)) k (f k p) e
as_at f g (holds h) = holds (λ j q. let r = g j q in r.2 ∙ h r.0 r.1)

-- ---- the law of marked keys

pub alike_elsewhere : (b : Bound) (a : t.BExpr) (env : List BValue) (k j : Key) → is_listed (marked a env) k ≡ false → is_listed (marked a env) j ≡ false →
    body_at b a env k ≡ body_at b a env j
alike_elsewhere b a env k j h g = ap as_truth (value_off b a env k h ∙ sym (value_off b a env j g))

marked_decides-step : (b : Bound) (us : List BBase) (a : t.BExpr) (env : List BValue) (j : Key) → FitsKey us j → is_listed (marked a env) j ≡ false →
    (k : Key) (s : Truth) → is_listed (marked a env) k ≡ s → FitsKey us k → (i : Key) × AtMarkedOr a env us j i × (body_at b a env k ≡ body_at b a env i)
marked_decides-step b us a env j f h k true e g = (k, (g, inl e), refl)
marked_decides-step b us a env j f h k false e g = (j, (f, inr refl), alike_elsewhere b a env k j e h)

-- the marked keys and one that is not marked decide
pub marked_decides : (b : Bound) (us : List BBase) (a : t.BExpr) (env : List BValue) (j : Key) (e : End Truth) → FitsKey us j → is_listed (marked a env) j ≡ false →
    IsForall (AtMarkedOr a env us j) (body_at b a env) e → IsForall (FitsKey us) (body_at b a env) e
marked_decides b us a env j e f h = as_at (λ k p. p.0) (λ k g. marked_decides-step b us a env j f h k (is_listed (marked a env) k) refl g)

-- and alone, where each is marked
pub marked_alone : (b : Bound) (us : List BBase) (a : t.BExpr) (env : List BValue) (e : End Truth) → ((k : Key) → FitsKey us k → is_listed (marked a env) k ≡ true) →
    IsForall (AtMarked a env us) (body_at b a env) e → IsForall (FitsKey us) (body_at b a env) e
marked_alone b us a env e all = as_at (λ k p. p.0) (λ k g. (k, (g, all k g), refl))

-- Where every key of these types is listed, each of the types is bool.
only_bools-by : (us : List BBase) (test : Key → Truth) (n : ℕ) → are_keys us ≡ true → ((k : Key) → n ≤ size k → test k ≡ true) → ((k : Key) → FitsKey us k → test k ≡ false) →
    All (λ u. u ≡ base.Bool) us
only_bools-by [] test n h large none = All-nil (λ u. u ≡ base.Bool)
only_bools-by (base.Int ∷ us) test n h large none =
    let s = sample us h in
    let a : test (part.Int (pos n) ∷ s.0) ≡ true = large (part.Int (pos n) ∷ s.0) (omega arith) in
    let c : test (part.Int (pos n) ∷ s.0) ≡ false = none (part.Int (pos n) ∷ s.0) (refl, s.1) in
    absurd (cc)
only_bools-by (base.Bool ∷ us) test n h large none =
    All-cons (λ u. u ≡ base.Bool) base.Bool us refl
    (only_bools-by us (λ k. test (part.Bool false ∷ k)) n h (λ k l. large (part.Bool false ∷ k) (omega (arith, l))) (λ k f. none (part.Bool false ∷ k) (refl, f)))
only_bools-by (base.Ref ∷ us) test n h large none =
    let s = sample us h in
    let a : test (part.Ref n ∷ s.0) ≡ true = large (part.Ref n ∷ s.0) (omega arith) in
    let c : test (part.Ref n ∷ s.0) ≡ false = none (part.Ref n ∷ s.0) (refl, s.1) in
    absurd (cc)
only_bools-by (base.Real ∷ us) test n h large none = absurd (cc)
only_bools-by (base.Snap ∷ us) test n h large none = absurd (cc)

pub only_bools : (us : List BBase) (ks : List Key) → are_keys us ≡ true → ((k : Key) → FitsKey us k → is_listed ks k ≡ true) → All (λ u. u ≡ base.Bool) us
only_bools us ks h all =
    only_bools-by us (λ k. not (is_listed ks k)) (total ks + 1) h (λ k l. large-step k ks (is_listed ks k) refl l) (λ k f. rw (all k f) refl)
