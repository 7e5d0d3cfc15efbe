-- Typed values of the conditions' names lead to values of all names of a table at which each is what its term says, and a law stays
-- a law where terms are added.
use Rattle.std.proofs.Common.{◌≡◌, inl, inr, ◌+◌, ℕ, zero, suc, true, Option, Some, None, List, [], ◌∷◌, ◌++◌, slice_get, take, length, append_assoc, append-nil, refl, sym, ap, subst, ◌∙◌, arith}
use Rattle.lemmas.proofs.Tests.{and_parts}
use Rattle.lemmas.proofs.Lists.{there_split as split}
use Rattle.boogie_tree.specs.Program.{BType}
use Rattle.boogie_tree.specs.Value.{BValue, Bool}
use Rattle.boogie_tree.specs.Values.{IsEnvironment, IsOfType}
use Rattle.boogie_meaning.specs.Ends.{Is, found}
use Rattle.boogie_meaning.specs.Programs.{default_value}
use Rattle.boogie_meaning.proofs.ValueLaws.{found_typed, default_typed}
use Rattle.boogie_meaning.proofs.EnvironmentLaws.{env_front}
use Rattle.boogie_formula.specs.Formula.{FExpr}
use Rattle.boogie_formula.specs.Value.{whole}
use Rattle.boogie_formula.specs.Types.{whole_type}
use Rattle.cert_terms.specs.declared.terms.ClauseLiteral.{ClauseLiteral}
use Rattle.cert_terms.specs.declared.terms.CertificateTerm.{CertificateTerm}
use Rattle.cert_terms.specs.declared.terms.CertificateTerm.TheVariants as term
use Rattle.cert_terms.specs.Terms.{meaning, IsModel, HoldsIn, IsLaw}
use Rattle.cert_terms.specs.Tables.{is_of_type, are_of_types, IsTable, givens, Grows}
use Rattle.cert_terms.proofs.ValueLaws.{whole_there}
use Rattle.cert_terms.proofs.KeptLaws.{kept_more, meaning_kept, at_kept}
use Rattle.cert_terms.proofs.TableLaws.{one_more, take_kept, env_take, env_more, from_is_type, typed_at, typed_behind}

-- ---- a law stays a law

same_found : (o : Option BValue) (v w : BValue) → o ≡ Some w → found o ≡ Is v → v ≡ w
same_found (Some x) v w h g = let e : x ≡ w = cc in let d : x ≡ v = cc in sym d ∙ e
same_found None v w h g = absurd (cc)

module _ (ts : List CertificateTerm) (us : List BType) (h : IsTable ts us) (more : List CertificateTerm) (mores : List BType) where
  module _ (values : List BValue) (typed : IsEnvironment (us ++ mores) values) (model : IsModel (ts ++ more) values) where
    abbrev front : List BValue
    front = take (length us) values

    front_typed : IsEnvironment us front
    front_typed = env_front us mores values typed

    front_agrees : (n : ℕ) (t : CertificateTerm) (e : FExpr) → slice_get ts n ≡ Some t → meaning t ≡ Some e → whole e front ≡ found (slice_get front n)
    front_agrees n t e l m =
        let r = typed_at [] ts us h n t e l m in
        let w = whole_there (take n us) (take n front) (env_take n us front front_typed) e r.0 r.2 in
        let a = meaning_kept (take n front) front (take_kept n front) t e m w.0 w.1 in
        let b = meaning_kept front values (take_kept (length us) values) t e m w.0 a in
        let x = found_typed us front n r.0 front_typed r.1 in
        let there = take_kept (length us) values n x.0 x.1 in
        let same = same_found (slice_get values n) w.0 x.0 there (sym (model.agrees n t e (kept_more ts more n t l) m) ∙ b) in
        a ∙ ap Is same ∙ ap found (sym x.1)

    -- the values of the first names are a model of the first terms
    pub front_model : IsModel ts front
    front_model = record { agrees = front_agrees }

    pub holds_kept : (clause : List ClauseLiteral) → HoldsIn front clause → HoldsIn values clause
    holds_kept clause x = record {
      place = x.place;
      literal = x.literal;
      is_there = x.is_there;
      is_true = at_kept front values (take_kept (length us) values) x.literal (Bool true) x.is_true;
    }

  pub law_more : (clause : List ClauseLiteral) → IsLaw ts us clause → IsLaw (ts ++ more) (us ++ mores) clause
  law_more clause law = λ values typed model. holds_kept values typed model clause (law (take (length us) values) (front_typed values typed model) (front_model values typed model))

-- a law of a table is one of a table that has grown
pub law_kept : (ts : List CertificateTerm) (us : List BType) (ts' : List CertificateTerm) (us' : List BType) → IsTable ts us → Grows ts us ts' us' → (clause : List ClauseLiteral) → IsLaw ts us clause → IsLaw ts' us' clause
law_kept ts us ts' us' h g clause law =
    subst (λ x. IsLaw x us' clause) (sym g.is_longer) (subst (λ y. IsLaw (ts ++ g.terms) y clause) (sym g.are_longer) (law_more ts us h g.terms g.types clause law))

pub grows_itself : (ts : List CertificateTerm) (us : List BType) → Grows ts us ts us
grows_itself ts us = record { terms = []; types = []; is_longer = sym (append-nil ts); are_longer = sym (append-nil us) }

pub grows_one : (ts : List CertificateTerm) (us : List BType) (t : CertificateTerm) (u : BType) → Grows ts us (ts ++ t ∷ []) (us ++ u ∷ [])
grows_one ts us t u = record { terms = t ∷ []; types = u ∷ []; is_longer = refl; are_longer = refl }

pub grows_on : (a : List CertificateTerm) (x : List BType) (b : List CertificateTerm) (y : List BType) (c : List CertificateTerm) (z : List BType) → Grows a x b y → Grows b y c z → Grows a x c z
grows_on a x b y c z g h = record {
  terms = g.terms ++ h.terms;
  types = g.types ++ h.types;
  is_longer = h.is_longer ∙ ap (λ l. l ++ h.terms) g.is_longer ∙ append_assoc a g.terms h.terms;
  are_longer = h.are_longer ∙ ap (λ l. l ++ h.types) g.are_longer ∙ append_assoc x g.types h.types;
}

-- ---- values of all names

-- values of further names
pub record Extends (values : List BValue) (more : List CertificateTerm) (mores : List BType) : Type 0 where
  pub added : List BValue
  pub typed : IsEnvironment mores added
  pub agrees : (n : ℕ) (t : CertificateTerm) (e : FExpr) → slice_get more n ≡ Some t → meaning t ≡ Some e → whole e (values ++ added) ≡ found (slice_get added n)

-- the value of one more name
value_of : (before : List BType) (values : List BValue) → IsEnvironment before values → (o : Option FExpr) (u : BType) → is_of_type o before u ≡ true →
    (v : BValue) × IsOfType v u × ((e : FExpr) → o ≡ Some e → whole e values ≡ Is v)
value_of before values typed None u h = (default_value u, default_typed u.keys u.base, λ e m. absurd (cc))
value_of before values typed (Some e) u h =
    let w = whole_there before values typed e u (from_is_type (whole_type before e) u h) in
    (w.0, w.2, λ g m. let same : e ≡ g = cc in subst (λ x. whole x values ≡ Is w.0) same w.1)

pub extends : (before : List BType) (more : List CertificateTerm) (mores : List BType) → are_of_types before more mores ≡ true → (values : List BValue) → IsEnvironment before values →
    Extends values more mores
extends before [] [] h values typed = record { added = []; typed = tt; agrees = λ n t e l m. absurd (cc) }
extends before [] (u ∷ us) h values typed = absurd (cc)
extends before (t ∷ ts) [] h values typed = absurd (cc)
extends before (t ∷ ts) (u ∷ us) h values typed = behind (value_of before values typed (meaning t) u p.0)
    (λ v f. extends (before ++ u ∷ []) ts us p.1 (values ++ v ∷ []) (env_more before (u ∷ []) values (v ∷ []) typed (f, tt)))
  where
    p : (is_of_type (meaning t) before u ≡ true) × (are_of_types (before ++ u ∷ []) ts us ≡ true)
    p = and_parts (is_of_type (meaning t) before u) (are_of_types (before ++ u ∷ []) ts us) h

    behind : (v : BValue) × IsOfType v u × ((e : FExpr) → meaning t ≡ Some e → whole e values ≡ Is v) → ((v : BValue) → IsOfType v u → Extends (values ++ v ∷ []) ts us) →
        Extends values (t ∷ ts) (u ∷ us)
    behind w go = record { added = w.0 ∷ rest.added; typed = (w.1, rest.typed); agrees = at_place }
      where
        rest : Extends (values ++ w.0 ∷ []) ts us
        rest = go w.0 w.1

        at_place : (n : ℕ) (x : CertificateTerm) (e : FExpr) → slice_get (t ∷ ts) n ≡ Some x → meaning x ≡ Some e → whole e (values ++ w.0 ∷ rest.added) ≡ found (slice_get (w.0 ∷ rest.added) n)
        at_place zero x e l m =
            let same : t ≡ x = cc in
            meaning_kept values (values ++ w.0 ∷ rest.added) (kept_more values (w.0 ∷ rest.added)) x e m w.0 (w.2 e (ap meaning same ∙ m))
        at_place (suc n) x e l m = ap (whole e) (sym (one_more values rest.added w.0)) ∙ rest.agrees n x e l m

givens_given : (us : List BType) (n : ℕ) (t : CertificateTerm) (e : FExpr) → slice_get (givens us) n ≡ Some t → meaning t ≡ Some e → ⊥
givens_given [] n t e l m = absurd (cc)
givens_given (u ∷ us) zero t e l m = let same : term.Given ≡ t = cc in let n : None ≡ Some e = ap meaning same ∙ m in absurd (cc)
givens_given (u ∷ us) (suc n) t e l m = givens_given us n t e l m

pub length_givens : (us : List BType) → length (givens us) ≡ length us
length_givens [] = refl
length_givens (u ∷ us) = ap suc (length_givens us)

pub givens_typed : (before us : List BType) → are_of_types before (givens us) us ≡ true
givens_typed before [] = refl
givens_typed before (u ∷ us) = givens_typed (before ++ u ∷ []) us

value_behind : (us : List BType) (values added : List BValue) (j : ℕ) → IsEnvironment us values → slice_get (values ++ added) (length us + j) ≡ slice_get added j
value_behind [] [] added j h = let e : 0 + j ≡ j = omega (arith) in ap (slice_get added) e
value_behind [] (v ∷ vs) added j h = absurd h
value_behind (u ∷ us) [] added j h = absurd h
value_behind (u ∷ us) (v ∷ vs) added j h =
    let e : suc (length us) + j ≡ suc (length us + j) = omega (arith) in
    ap (slice_get (v ∷ (vs ++ added))) e ∙ value_behind us vs added j h.1

-- typed values of the conditions' names, with values of all names behind
pub record Completes (values : List BValue) (terms : List CertificateTerm) (types : List BType) : Type 0 where
  pub added : List BValue
  pub typed : IsEnvironment types (values ++ added)
  pub model : IsModel terms (values ++ added)

pub completes : (us : List BType) (more : List CertificateTerm) (mores : List BType) → IsTable (givens us ++ more) (us ++ mores) → (values : List BValue) → IsEnvironment us values →
    Completes values (givens us ++ more) (us ++ mores)
completes us more mores h values typed = record { added = x.added; typed = env_more us mores values x.added typed x.typed; model = record { agrees = at_either } }
  where
    x : Extends values more mores
    x = extends us more mores (typed_behind [] (givens us) more us mores (length_givens us) h) values typed

    at_either : (n : ℕ) (t : CertificateTerm) (e : FExpr) → slice_get (givens us ++ more) n ≡ Some t → meaning t ≡ Some e → whole e (values ++ x.added) ≡ found (slice_get (values ++ x.added) n)
    at_either n t e l m = elim (split (givens us) more n t l) [
      | inl a ↦ absurd (givens_given us n t e a m)
      | inr a ↦ x.agrees a.0 t e a.2 m
          ∙ ap found (sym (value_behind us values x.added a.0 typed))
          ∙ ap (λ k. found (slice_get (values ++ x.added) (k + a.0))) (sym (length_givens us))
          ∙ ap (λ k. found (slice_get (values ++ x.added) k)) (sym a.1)
    ]

-- the same where a table has grown from the conditions' names
pub completes_grown : (us : List BType) (terms : List CertificateTerm) (types : List BType) → Grows (givens us) us terms types → IsTable terms types → (values : List BValue) → IsEnvironment us values →
    Completes values terms types
completes_grown us terms types g h values typed =
    let long : IsTable (givens us ++ g.terms) (us ++ g.types) = subst (λ y. IsTable (givens us ++ g.terms) y) g.are_longer (subst (λ x. IsTable x types) g.is_longer h) in
    subst (λ x. Completes values x types) (sym g.is_longer) (subst (λ y. Completes values (givens us ++ g.terms) y) (sym g.are_longer) (completes us g.terms g.types long values typed))
