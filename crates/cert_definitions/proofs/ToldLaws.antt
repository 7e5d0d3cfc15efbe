-- What is told by its text is told rightly, and a clause of a `forall` at keys holds, where definitions have their values.
use Rattle.std.proofs.Common.{◌≡◌, ◌⊎◌, inl, inr, ◌+◌, ℕ, zero, suc, true, Option, Some, None, List, [], ◌∷◌, ◌++◌, length, slice_get, slice_set, refl, sym, ap, subst}
use Rattle.boogie_tree.specs.Program.{BType}
use Rattle.boogie_tree.specs.Value.{BValue}
use Rattle.boogie_tree.specs.Values.{IsEnvironment}
use Rattle.boogie_tree.specs.declared.exprs.BBase.{BBase}
use Rattle.boogie_meaning.proofs.TypeLaws.{bases_same}
use Rattle.boogie_formula.specs.Formula as f
use Rattle.boogie_formula.specs.Formula.{FExpr, Conditions}
use Rattle.boogie_formula.specs.Types.{fbases}
use Rattle.boogie_types.specs.Typed.{are_bases}
use Rattle.cert_terms.specs.Lawful.{terms_of, types_of}
use Rattle.cert_terms.specs.Literals.{turned}
use Rattle.cert_terms.specs.Terms.{operands, IsModel, IsTruth}
use Rattle.cert_terms.specs.declared.table.TermTable.{TermTable}
use Rattle.cert_terms.specs.declared.terms.ClauseLiteral.{ClauseLiteral}
use Rattle.cert_terms.specs.declared.terms.CertificateTerm.{CertificateTerm}
use Rattle.cert_definitions.specs.Defined.{Holds, IsToldRightly}
use Rattle.cert_definitions.specs.Texts.{Told, is_text, is_told, is_instance}
use Rattle.cert_definitions.specs.Told.{AreDefined, AreTold, IsTold, HoldsDefined}
use Rattle.cert_definitions.specs.View.{told_of}
use Rattle.cert_definitions.proofs.TextLaws.{and_both, AreRight, name_is}
use Rattle.cert_definitions.proofs.LetLaws.{told_rightly, instance_holds}

-- ---- entries

-- no name is told to be anything
abbrev pub AreUntold : List (Option ClauseLiteral) → Type 0
AreUntold aliases = (i : ℕ) (l : ClauseLiteral) → slice_get aliases i ≡ Some (Some l) → ⊥

pub untold_none : AreUntold []
untold_none i l h = absurd (cc)

pub untold_more : (aliases : List (Option ClauseLiteral)) → AreUntold aliases → AreUntold (aliases ++ None ∷ [])
untold_more [] n zero l h = absurd (cc)
untold_more [] n (suc i) l h = absurd (cc)
untold_more (a ∷ rest) n zero l h = n zero l h
untold_more (a ∷ rest) n (suc i) l h = untold_more rest (λ j x g. n (suc j) x g) i l h

pub untold_told : (aliases : List (Option ClauseLiteral)) → AreUntold aliases → (x : Conditions) (terms : List CertificateTerm) (types : List BType) → AreTold x terms types aliases
untold_told aliases n x terms types = λ values typed model defined i l h. absurd (n i l h)

-- an entry of a list with another entry at a place
set_either : {X : Type 0} (xs : List X) (i j : ℕ) (v x : X) → slice_get (slice_set xs i v) j ≡ Some x → ((j ≡ i) × (v ≡ x)) ⊎ (slice_get xs j ≡ Some x)
set_either [] i j v x h = inr h
set_either (y ∷ xs) zero zero v x h = let e : v ≡ x = cc in inl (refl, e)
set_either (y ∷ xs) zero (suc j) v x h = inr h
set_either (y ∷ xs) (suc i) zero v x h = inr h
set_either (y ∷ xs) (suc i) (suc j) v x h = elim (set_either xs i j v x h) [ inl a ↦ inl (ap suc a.0, a.1) | inr a ↦ inr a ]

pub told_more : (x : Conditions) (terms : List CertificateTerm) (types : List BType) (aliases : List (Option ClauseLiteral)) (i : ℕ) (l : ClauseLiteral) → AreTold x terms types aliases → IsTold x terms types i l →
    AreTold x terms types (slice_set aliases i (Some l))
told_more x terms types aliases i l told here = λ values typed model defined j k h. elim (set_either aliases i j (Some l) (Some k) h) [
  | inl a ↦
      let same : l ≡ k = cc (a.1) in
      subst (λ n. IsToldRightly n k values) (sym a.0) (subst (λ m. IsToldRightly i m values) same (here values typed model defined))
  | inr a ↦ told values typed model defined j k a
]

-- ---- texts

pub instance_parts : (t : Told) (e : FExpr) (ks : List ClauseLiteral) (l : ClauseLiteral) → is_instance t e ks l ≡ true →
    (us : List BBase) × (a : FExpr) × (e ≡ f.Forall us a) × (are_bases (fbases t.types (operands ks)) us ≡ true) × (is_text t a l ≡ true)
instance_parts t (f.Forall us a) ks l h = let p = and_both h in (us, a, refl, p.0, p.1)
instance_parts t _ ks l h = absurd (cc)

bases_are : (o : Option (List BBase)) (us : List BBase) → are_bases o us ≡ true → o ≡ Some us
bases_are (Some ws) us h = ap Some (bases_same ws us h)
bases_are None us h = absurd (cc)

module _ (table : TermTable) (x : Conditions) (aliases : List (Option ClauseLiteral)) (told : AreTold x (terms_of table) (types_of table) aliases) (place : ℕ) where
  module _ (values : List BValue) (typed : IsEnvironment (types_of table) values) (model : IsModel (terms_of table) values) (defined : AreDefined x values) where
    right : (keys : Option (List ClauseLiteral)) → AreRight (told_of table aliases keys) values
    right keys = record { right = λ i l h. told values typed model defined i l h }

    no_keys : (ks : List ClauseLiteral) → None ≡ Some ks → ⊥
    no_keys ks h = absurd (cc)

    told_at : (i : ℕ) (u : BType) (e : FExpr) (l : ClauseLiteral) → slice_get (types_of table) i ≡ Some u → Holds i e values → is_told (told_of table aliases None) i e l ≡ true → IsToldRightly i l values
    told_at i u (f.Forall us a) l there holds h = name_is (told_of table aliases None) values model (right None) i l h
    told_at i u e l there holds h =
        told_rightly (told_of table aliases None) values table.is_table typed model (right None) (record { there = λ ks g. absurd (no_keys ks g) }) i u e l there holds h

  -- a literal that is what a definition's text says has its value
  pub is_told_rightly : (name : ℕ) (u : BType) (e : FExpr) (l : ClauseLiteral) → slice_get x.lets place ≡ Some e → name ≡ length x.vars + place → slice_get (types_of table) name ≡ Some u →
      is_told (told_of table aliases None) name e l ≡ true → IsTold x (terms_of table) (types_of table) name l
  is_told_rightly name u e l is same there h = λ values typed model defined.
      told_at values typed model defined name u e l there (subst (λ n. Holds n e values) (sym same) (defined place e is)) h

  -- a definition is false, or its body at keys is true
  pub instance_told : (name : ℕ) (e : FExpr) (d l : ClauseLiteral) (ks : List ClauseLiteral) → slice_get x.lets place ≡ Some e → name ≡ length x.vars + place → slice_get aliases name ≡ Some (Some d) →
      IsTruth (types_of table) d → IsTruth (types_of table) l → is_instance (told_of table aliases (Some ks)) e ks l ≡ true → HoldsDefined x (terms_of table) (types_of table) (turned d ∷ l ∷ [])
  instance_told name e d l ks is same alias d_truth l_truth h = λ values typed model defined.
      let p = instance_parts (told_of table aliases (Some ks)) e ks l h in
      let holds = subst (λ g. Holds name g values) p.2 (subst (λ n. Holds n e values) (sym same) (defined place e is)) in
      instance_holds (told_of table aliases (Some ks)) values table.is_table typed model (right values typed model defined (Some ks)) name p.0 p.1 d l ks holds
      (told values typed model defined name d alias) d_truth l_truth (bases_are (fbases (types_of table) (operands ks)) p.0 p.3) refl p.4
