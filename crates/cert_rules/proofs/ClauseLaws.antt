-- Clauses with a literal that is true.
use Rattle.std.proofs.Common.{◌≡◌, ℕ, zero, suc, Some, None, List, [], ◌∷◌, ◌++◌, slice_get, Vec, sym, ap, subst, ◌∙◌}
use Rattle.std.specs.declared.alloc.Global.{Global}
use Rattle.boogie_tree.specs.Program.{BType}
use Rattle.boogie_tree.specs.Value.{BValue}
use Rattle.cert_terms.specs.Terms.{IsTrueIn, HoldsIn, IsLaw}
use Rattle.cert_terms.specs.declared.terms.ClauseLiteral.{ClauseLiteral}
use Rattle.cert_terms.specs.declared.terms.CertificateTerm.{CertificateTerm}
use Rattle.cert_terms.proofs.LiteralLaws.{holds_first, holds_more}

more_at : (ls ms : List ClauseLiteral) (i : ℕ) (l : ClauseLiteral) → slice_get ls i ≡ Some l → slice_get (ls ++ ms) i ≡ Some l
more_at [] ms i l h = none h
  where
    none : {X : Type 0} {x : X} {Y : Type 0} → None ≡ Some x → Y
    none e = absurd (cc)
more_at (k ∷ ls) ms zero l h = h
more_at (k ∷ ls) ms (suc i) l h = more_at ls ms i l h

module _ {values : List BValue} where
  pub holds_second : {l m : ClauseLiteral} {ls : List ClauseLiteral} → IsTrueIn values m → HoldsIn values (l ∷ m ∷ ls)
  holds_second {l} {m} {ls} h = holds_more values l (m ∷ ls) (holds_first values m ls h)

  pub holds_third : {l m n : ClauseLiteral} {ls : List ClauseLiteral} → IsTrueIn values n → HoldsIn values (l ∷ m ∷ n ∷ ls)
  holds_third {l} {m} {n} {ls} h = holds_more values l (m ∷ n ∷ ls) (holds_second h)

  -- a clause with more literals
  pub holds_longer : (ls ms : List ClauseLiteral) → HoldsIn values ls → HoldsIn values (ls ++ ms)
  holds_longer ls ms h = record { place = h.place; literal = h.literal; is_there = more_at ls ms h.place h.literal h.is_there; is_true = h.is_true }

  pub holds_last : (ls : List ClauseLiteral) (l : ClauseLiteral) → IsTrueIn values l → HoldsIn values (ls ++ l ∷ [])
  holds_last [] l h = holds_first values l [] h
  holds_last (k ∷ ls) l h = holds_more values k (ls ++ l ∷ []) (holds_last ls l h)

-- clauses whose literals are known by equations
module _ (P : List BValue → Type 0) where
  pub two_if : (x y z w : ClauseLiteral) → x ≡ z → y ≡ w → ((values : List BValue) → P values → HoldsIn values (z ∷ w ∷ [])) → (v : Vec ClauseLiteral Global) → v.items ≡ x ∷ y ∷ [] → (values : List BValue) → P values → HoldsIn values v.items
  two_if x y z w a b f v e values p = subst (HoldsIn values) (sym (e ∙ (λ i. a i ∷ b i ∷ []))) (f values p)

  pub three_if : (x y z x' y' z' : ClauseLiteral) → x ≡ x' → y ≡ y' → z ≡ z' → ((values : List BValue) → P values → HoldsIn values (x' ∷ y' ∷ z' ∷ [])) → (v : Vec ClauseLiteral Global) → v.items ≡ x ∷ y ∷ z ∷ [] →
      (values : List BValue) → P values → HoldsIn values v.items
  three_if x y z x' y' z' a b c f v e values p = subst (HoldsIn values) (sym (e ∙ (λ i. a i ∷ b i ∷ c i ∷ []))) (f values p)

module _ (terms : List CertificateTerm) (types : List BType) where
  pub law_if : (ls : List ClauseLiteral) → IsLaw terms types ls → (v : Vec ClauseLiteral Global) → v.items ≡ ls → IsLaw terms types v.items
  law_if ls h v e = subst (IsLaw terms types) (sym e) h

  pub one_law : (x z : ClauseLiteral) → x ≡ z → IsLaw terms types (z ∷ []) → (v : Vec ClauseLiteral Global) → v.items ≡ x ∷ [] → IsLaw terms types v.items
  one_law x z a h v e = subst (IsLaw terms types) (sym (e ∙ ap (λ l. l ∷ []) a)) h

  pub two_law : (x y z w : ClauseLiteral) → x ≡ z → y ≡ w → IsLaw terms types (z ∷ w ∷ []) → (v : Vec ClauseLiteral Global) → v.items ≡ x ∷ y ∷ [] → IsLaw terms types v.items
  two_law x y z w a b h v e = subst (IsLaw terms types) (sym (e ∙ (λ i. a i ∷ b i ∷ []))) h
