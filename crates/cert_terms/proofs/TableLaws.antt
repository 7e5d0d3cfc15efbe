-- Tables: a term has the type of its meaning, given values lead to values of all names, and a law stays one where terms are added.
use Rattle.std.proofs.Common.{◌≡◌, ◌+◌, ℕ, zero, suc, true, Option, Some, None, List, [], ◌∷◌, ◌++◌, slice_get, take, length, append_assoc, append-nil, refl, sym, ap, subst, ◌∙◌, arith}
use Rattle.lemmas.proofs.Tests.{and_parts}
use Rattle.boogie_tree.specs.Program.{BType}
use Rattle.boogie_tree.specs.Value.{BValue}
use Rattle.boogie_tree.specs.Values.{IsEnvironment}
use Rattle.boogie_meaning.specs.Types.{is_type}
use Rattle.boogie_meaning.proofs.TypeLaws.{and_true, type_same, same_base_itself, same_bases_itself}
use Rattle.boogie_formula.specs.Formula.{FExpr}
use Rattle.boogie_formula.specs.Types.{whole_type}
use Rattle.cert_terms.specs.declared.terms.CertificateTerm.{CertificateTerm}
use Rattle.cert_terms.specs.Terms.{meaning}
use Rattle.cert_terms.specs.Tables.{is_of_type, are_of_types, IsTable}
use Rattle.cert_terms.proofs.KeptLaws.{Kept, whole_type_kept}

-- ---- lists

pub one_more : {X : Type 0} (xs ys : List X) (x : X) → (xs ++ x ∷ []) ++ ys ≡ xs ++ (x ∷ ys)
one_more xs ys x = append_assoc xs (x ∷ []) ys

pub take_kept : {X : Type 0} (n : ℕ) (xs : List X) → Kept (take n xs) xs
take_kept zero xs = λ j x h. absurd (cc)
take_kept (suc n) [] = λ j x h. absurd (cc)
take_kept {X} (suc n) (y ∷ xs) = at_place (take_kept n xs)
  where
    at_place : Kept (take n xs) xs → (j : ℕ) (x : X) → slice_get (y ∷ take n xs) j ≡ Some x → slice_get (y ∷ xs) j ≡ Some x
    at_place rest zero x h = h
    at_place rest (suc j) x h = rest j x h

-- ---- environments

pub env_take : (n : ℕ) (ls : List BType) (vs : List BValue) → IsEnvironment ls vs → IsEnvironment (take n ls) (take n vs)
env_take zero ls vs h = tt
env_take (suc n) [] [] h = tt
env_take (suc n) [] (v ∷ vs) h = absurd h
env_take (suc n) (l ∷ ls) [] h = absurd h
env_take (suc n) (l ∷ ls) (v ∷ vs) h = (h.0, env_take n ls vs h.1)

pub env_more : (ls us : List BType) (vs ws : List BValue) → IsEnvironment ls vs → IsEnvironment us ws → IsEnvironment (ls ++ us) (vs ++ ws)
env_more [] us [] ws h g = g
env_more [] us (v ∷ vs) ws h g = absurd h
env_more (l ∷ ls) us [] ws h g = absurd h
env_more (l ∷ ls) us (v ∷ vs) ws h g = (h.0, env_more ls us vs ws h.1 g)

-- ---- the types of a table

pub from_is_type : (o : Option BType) (u : BType) → is_type o (Some u) ≡ true → o ≡ Some u
from_is_type (Some w) u h = ap Some (type_same w u h)
from_is_type None u h = absurd (cc)

pub is_type_itself : (o : Option BType) (u : BType) → o ≡ Some u → is_type o (Some u) ≡ true
is_type_itself o u h = rw h (and_true (same_bases_itself u.keys) (same_base_itself u.base))

-- the term of this number and its type
pub typed_at : (before : List BType) (ts : List CertificateTerm) (us : List BType) → are_of_types before ts us ≡ true → (n : ℕ) (t : CertificateTerm) (e : FExpr) →
    slice_get ts n ≡ Some t → meaning t ≡ Some e → (u : BType) × (slice_get us n ≡ Some u) × (whole_type (before ++ take n us) e ≡ Some u)
typed_at before [] us h n t e l m = absurd (cc)
typed_at before (x ∷ ts) [] h n t e l m = absurd (cc)
typed_at before (x ∷ ts) (u ∷ us) h zero t e l m =
    let p = and_parts (is_of_type (meaning x) before u) (are_of_types (before ++ u ∷ []) ts us) h in
    let same : x ≡ t = cc in
    let of_it : is_type (whole_type before e) (Some u) ≡ true = subst (λ o. is_of_type o before u ≡ true) (ap meaning same ∙ m) p.0 in
    (u, refl, ap (λ b. whole_type b e) (append-nil before) ∙ from_is_type (whole_type before e) u of_it)
typed_at before (x ∷ ts) (u ∷ us) h (suc n) t e l m =
    let p = and_parts (is_of_type (meaning x) before u) (are_of_types (before ++ u ∷ []) ts us) h in
    let r = typed_at (before ++ u ∷ []) ts us p.1 n t e l m in
    (r.0, r.1, ap (λ b. whole_type b e) (sym (one_more before (take n us) u)) ∙ r.2)

-- as many types as terms
pub as_long : (before : List BType) (ts : List CertificateTerm) (us : List BType) → are_of_types before ts us ≡ true → length ts ≡ length us
as_long before [] [] h = refl
as_long before [] (u ∷ us) h = absurd (cc)
as_long before (t ∷ ts) [] h = absurd (cc)
as_long before (t ∷ ts) (u ∷ us) h = ap suc (as_long (before ++ u ∷ []) ts us (and_parts (is_of_type (meaning t) before u) (are_of_types (before ++ u ∷ []) ts us) h).1)

-- one more term
pub typed_push : (before : List BType) (ts : List CertificateTerm) (us : List BType) → are_of_types before ts us ≡ true → (t : CertificateTerm) (u : BType) → is_of_type (meaning t) (before ++ us) u ≡ true →
    are_of_types before (ts ++ t ∷ []) (us ++ u ∷ []) ≡ true
typed_push before [] [] h t u g = and_true (subst (λ b. is_of_type (meaning t) b u ≡ true) (append-nil before) g) refl
typed_push before [] (w ∷ us) h t u g = absurd (cc)
typed_push before (x ∷ ts) [] h t u g = absurd (cc)
typed_push before (x ∷ ts) (w ∷ us) h t u g =
    let p = and_parts (is_of_type (meaning x) before w) (are_of_types (before ++ w ∷ []) ts us) h in
    and_true p.0 (typed_push (before ++ w ∷ []) ts us p.1 t u (subst (λ b. is_of_type (meaning t) b u ≡ true) (sym (one_more before us w)) g))

-- the terms behind others
pub typed_behind : (before : List BType) (ts more : List CertificateTerm) (us mores : List BType) → length ts ≡ length us → are_of_types before (ts ++ more) (us ++ mores) ≡ true →
    are_of_types (before ++ us) more mores ≡ true
typed_behind before [] more [] mores l h = subst (λ b. are_of_types b more mores ≡ true) (sym (append-nil before)) h
typed_behind before [] more (u ∷ us) mores l h = absurd (omega (arith, l))
typed_behind before (t ∷ ts) more [] mores l h = absurd (omega (arith, l))
typed_behind before (t ∷ ts) more (u ∷ us) mores l h =
    let p = and_parts (is_of_type (meaning t) before u) (are_of_types (before ++ u ∷ []) (ts ++ more) (us ++ mores)) h in
    let same : length ts ≡ length us = omega (arith, l) in
    subst (λ b. are_of_types b more mores ≡ true) (one_more before us u) (typed_behind (before ++ u ∷ []) ts more us mores same p.1)

-- a term of a table has its type over all of the table's names
pub typed_there : (ts : List CertificateTerm) (us : List BType) → IsTable ts us → (n : ℕ) (t : CertificateTerm) (e : FExpr) → slice_get ts n ≡ Some t → meaning t ≡ Some e →
    (u : BType) × (slice_get us n ≡ Some u) × (whole_type us e ≡ Some u)
typed_there ts us h n t e l m =
    let r = typed_at [] ts us h n t e l m in
    (r.0, r.1, whole_type_kept (take n us) us (take_kept n us) e r.0 r.2)
