-- The values of terms that the reasons about numbers look for, in a model.
use Rattle.std.proofs.Common.{◌≡◌, ℕ, zero, suc, pos, Bool as Truth, true, false, not, List, [], ◌∷◌, slice_get, refl, ap, ◌∙◌, subst, inl, inr}
use Rattle.vb_value.specs.Bound.{Unbounded}
use Rattle.boogie_tree.specs.Program.{BType}
use Rattle.boogie_tree.specs.Value.{BScalar, Int, Bool, Ref, Real, Snap, BValue}
use Rattle.boogie_tree.specs.Values.{IsEnvironment, IsReducedScalar, IsOfType, one, many}
use Rattle.boogie_tree.specs.declared.exprs.BOp.{BOp}
use Rattle.boogie_meaning.specs.Ends.{End, Is, Over, Wrong, then_with, found}
use Rattle.boogie_meaning.specs.Operators.{binary, negative, negation, real_from}
use Rattle.boogie_meaning.specs.Value.{scalar_in}
use Rattle.boogie_formula.specs.Formula as f
use Rattle.boogie_formula.specs.Value.{fvalue}
use Rattle.cert_terms.specs.Terms.{operand, IsModel, HoldsIn}
use Rattle.cert_terms.specs.Literals.{turned}
use Rattle.cert_terms.specs.declared.terms.ClauseLiteral.{ClauseLiteral}
use Rattle.cert_terms.specs.declared.terms.CertificateTerm.{CertificateTerm}
use Rattle.cert_terms.specs.declared.terms.CertificateTerm.TheVariants as term
use Rattle.cert_terms.proofs.MeaningLaws.{at, bin_value, neg_value, to_real_value, int_value, real_value}
use Rattle.cert_terms.proofs.LiteralLaws.{IsTruthValue, holds_first, holds_more}
use Rattle.cert_rules.specs.Shapes.{IsTerm, IsBin, IsZero}
use Rattle.cert_rules.proofs.ScalarLaws.{IsZeroNumber, int_zero, real_zero}

-- ---- terms

module _ {terms : List CertificateTerm} {values : List BValue} (model : IsModel terms values) where
  by_name : {l : ClauseLiteral} {t : CertificateTerm} → IsTerm terms l t → at l values ≡ fvalue (f.Var l.name) values
  by_name {l} is = ap (λ s. fvalue (operand (record { name = l.name; negated = s })) values) is.plain

  pub bin_at : {l : ClauseLiteral} {o : BOp} {a b : ClauseLiteral} → IsBin terms l o a b → at l values ≡ binary Unbounded o (at a values) (at b values)
  bin_at {l} {o} {a} {b} is = by_name is ∙ bin_value terms values model l.name o a b is.is_there

  pub neg_at : {l a : ClauseLiteral} → IsTerm terms l (term.Neg a) → at l values ≡ then_with (at a values) negative
  neg_at {l} {a} is = by_name is ∙ neg_value terms values model l.name a is.is_there

  pub to_real_at : {l a : ClauseLiteral} → IsTerm terms l (term.ToReal a) → at l values ≡ then_with (at a values) real_from
  to_real_at {l} {a} is = by_name is ∙ to_real_value terms values model l.name a is.is_there

  pub zero_at : {l : ClauseLiteral} → IsZero terms l → (z : BScalar) × ((at l values ≡ Is z) × IsZeroNumber z)
  zero_at {l} (inl is) = (Int (pos 0), (by_name is ∙ int_value terms values model l.name (pos 0) is.is_there, int_zero))
  zero_at {l} (inr is) = (_, (by_name is ∙ real_value terms values model l.name (pos 0) is.is_there, real_zero))

-- ---- values of a type are in lowest terms

of_type : {w : BValue} {u : BType} {v : BScalar} → IsOfType w u → scalar_in w ≡ Is v → IsReducedScalar v
of_type (one {v = x} fits) h = let e : x ≡ _ = cc in subst IsReducedScalar e fits.reduced
of_type (many fits) h = absurd cc

found_reduced : (ls : List BType) (env : List BValue) (i : ℕ) (v : BScalar) → IsEnvironment ls env → then_with (found (slice_get env i)) scalar_in ≡ Is v → IsReducedScalar v
found_reduced [] [] i v h there = absurd cc
found_reduced [] (w ∷ ws) i v h there = absurd h
found_reduced (l ∷ ls) [] i v h there = absurd h
found_reduced (l ∷ ls) (w ∷ ws) zero v h there = of_type h.0 there
found_reduced (l ∷ ls) (w ∷ ws) (suc i) v h there = found_reduced ls ws i v h.1 there

negation_reduced : (e : End BScalar) (v : BScalar) → then_with e negation ≡ Is v → IsReducedScalar v
negation_reduced (Is (Bool p)) v h = let e : Bool (not p) ≡ v = cc in subst IsReducedScalar e tt
negation_reduced (Is (Int n)) v h = absurd cc
negation_reduced (Is (Ref n)) v h = absurd cc
negation_reduced (Is (Real n)) v h = absurd cc
negation_reduced (Is (Snap n)) v h = absurd cc
negation_reduced Over v h = absurd cc
negation_reduced Wrong v h = absurd cc

module _ (types : List BType) (values : List BValue) (typed : IsEnvironment types values) where
  signed_reduced : (n : ℕ) (s : Truth) (v : BScalar) → fvalue (operand (record { name = n; negated = s })) values ≡ Is v → IsReducedScalar v
  signed_reduced n true v h = negation_reduced (fvalue (f.Var n) values) v h
  signed_reduced n false v h = found_reduced types values n v typed h

  pub reduced_at : (l : ClauseLiteral) (v : BScalar) → at l values ≡ Is v → IsReducedScalar v
  reduced_at l v h = signed_reduced l.name l.negated v h

-- ---- clauses

module _ {values : List BValue} where
  -- a literal is true, or what is left of the clause holds
  pub holds_if : (l : ClauseLiteral) (ls : List ClauseLiteral) (p : Truth) → IsTruthValue values l p → (p ≡ false → HoldsIn values ls) → HoldsIn values (l ∷ ls)
  holds_if l ls true is go = holds_first values l ls is.value
  holds_if l ls false is go = holds_more values l ls (go refl)

  pub holds_not : (l : ClauseLiteral) (ls : List ClauseLiteral) (p : Truth) → IsTruthValue values l p → (p ≡ true → HoldsIn values ls) → HoldsIn values (turned l ∷ ls)
  holds_not l ls true is go = holds_more values (turned l) ls (go refl)
  holds_not l ls false is go = holds_first values (turned l) ls is.other

  -- the last literal is true
  pub holds_so : (l : ClauseLiteral) (p : Truth) → IsTruthValue values l p → p ≡ true → HoldsIn values (l ∷ [])
  holds_so l p is e = holds_first values l [] (is.value ∙ ap (λ q. Is (Bool q)) e)

  pub holds_not_so : (l : ClauseLiteral) (p : Truth) → IsTruthValue values l p → p ≡ false → HoldsIn values (turned l ∷ [])
  holds_not_so l p is e = holds_first values (turned l) [] (is.other ∙ ap (λ q. Is (Bool (not q))) e)
