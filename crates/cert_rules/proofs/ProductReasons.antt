-- The clauses of the reasons about products are laws.
use Rattle.std.proofs.Common.{◌≡◌, List, [], ◌∷◌, refl, sym, ◌∙◌}
use Rattle.boogie_tree.specs.Program.{BType}
use Rattle.boogie_tree.specs.Value.{BScalar, Bool, BValue}
use Rattle.boogie_tree.specs.declared.exprs.BOp.{BOp}
use Rattle.boogie_tree.specs.declared.exprs.BOp.TheVariants as op
use Rattle.boogie_meaning.specs.Ends.{End, Is, then_with}
use Rattle.boogie_meaning.specs.Operators.{real_from}
use Rattle.cert_terms.specs.Terms.{IsModel, IsTruth, IsLaw}
use Rattle.cert_terms.specs.Literals.{turned}
use Rattle.cert_terms.specs.declared.terms.ClauseLiteral.{ClauseLiteral}
use Rattle.cert_terms.specs.declared.terms.CertificateTerm.{CertificateTerm}
use Rattle.cert_terms.specs.declared.terms.CertificateTerm.TheVariants as term
use Rattle.cert_terms.proofs.MeaningLaws.{at}
use Rattle.cert_terms.proofs.LiteralLaws.{truth_value}
use Rattle.cert_rules.specs.Shapes.{IsTerm, IsBin, IsAdditive, IsOfProducts, IsRing, commutes, associates, distributes, whole}
use Rattle.cert_rules.proofs.ScalarLaws.{done, strict, numbers_le, numbers_mul, numbers_additive, additive_strict, times_law, above_law, commutes as commute, associates as associate, distributes as distribute, whole_distributes}
use Rattle.cert_rules.proofs.NumberValues.{bin_at, to_real_at, reduced_at, holds_if, holds_not, holds_so, holds_not_so}

-- the value of an operator between two products
products_at : {terms : List CertificateTerm} {values : List BValue} → IsModel terms values → {l : ClauseLiteral} {o : BOp} {a b c d : ClauseLiteral} → IsOfProducts terms l o a b c d →
    at l values ≡ done o (done op.Mul (at a values) (at b values)) (done op.Mul (at c values) (at d values))
products_at model {o = o} is = bin_at model is.whole ∙ (λ i. done o (bin_at model is.first i) (bin_at model is.second i))

module _ (terms : List CertificateTerm) (types : List BType) where
  -- not a <= b, or not c <= d, or (a * d) + (b * c) <= (a * c) + (b * d)
  pub times_is_law : {p q r less more a b c d : ClauseLiteral} → IsTruth types p → IsTruth types q → IsTruth types r → IsBin terms p op.Le a b → IsBin terms q op.Le c d → IsBin terms r op.Le less more → IsOfProducts terms less op.Add a d b c → IsOfProducts terms more op.Add a c b d → IsLaw terms types (turned p ∷ turned q ∷ r ∷ [])
  times_is_law {p} {q} {r} {less} {more} {a} {b} {c} {d} truth_p truth_q truth_r is_p is_q is_r is_less is_more values typed model =
      let s = truth_value values types typed p truth_p in
      let t = truth_value values types typed q truth_q in
      let u = truth_value values types typed r truth_r in
      let left = strict op.Le (at a values) (at b values) (Bool s.0) refl (sym (bin_at model is_p) ∙ s.1.value) in
      let right = strict op.Le (at c values) (at d values) (Bool t.0) refl (sym (bin_at model is_q) ∙ t.1.value) in
      let w = left.1.1.0 in
      let x = left.1.1.1 in
      let y = right.1.1.0 in
      let z = right.1.1.1 in
      let told = sym (bin_at model is_r ∙ (λ i. done op.Le (products_at model is_less i) (products_at model is_more i)) ∙ (λ i. done op.Le (done op.Add (done op.Mul (w i) (z i)) (done op.Mul (x i) (y i))) (done op.Add (done op.Mul (w i) (y i)) (done op.Mul (x i) (z i))))) ∙ u.1.value in
      let law = times_law (numbers_le left.0 left.1.0 _ left.1.1.2) (numbers_le right.0 right.1.0 _ right.1.1.2) (reduced_at types values typed a _ w) (reduced_at types values typed b _ x) (reduced_at types values typed c _ y) (reduced_at types values typed d _ z) left.1.1.2 right.1.1.2 told in
      holds_not p _ s.0 s.1 (λ f. holds_not q _ t.0 t.1 (λ g. holds_so r u.0 u.1 (law f g)))

  -- b <= a, or d <= c, or not (a * c) + (b * d) <= (a * d) + (b * c)
  pub above_is_law : {p q r less more a b c d : ClauseLiteral} → IsTruth types p → IsTruth types q → IsTruth types r → IsBin terms p op.Le b a → IsBin terms q op.Le d c → IsBin terms r op.Le more less → IsOfProducts terms less op.Add a d b c → IsOfProducts terms more op.Add a c b d → IsLaw terms types (p ∷ q ∷ turned r ∷ [])
  above_is_law {p} {q} {r} {less} {more} {a} {b} {c} {d} truth_p truth_q truth_r is_p is_q is_r is_less is_more values typed model =
      let s = truth_value values types typed p truth_p in
      let t = truth_value values types typed q truth_q in
      let u = truth_value values types typed r truth_r in
      let left = strict op.Le (at b values) (at a values) (Bool s.0) refl (sym (bin_at model is_p) ∙ s.1.value) in
      let right = strict op.Le (at d values) (at c values) (Bool t.0) refl (sym (bin_at model is_q) ∙ t.1.value) in
      let w = left.1.1.1 in
      let x = left.1.1.0 in
      let y = right.1.1.1 in
      let z = right.1.1.0 in
      let told = sym (bin_at model is_r ∙ (λ i. done op.Le (products_at model is_more i) (products_at model is_less i)) ∙ (λ i. done op.Le (done op.Add (done op.Mul (w i) (y i)) (done op.Mul (x i) (z i))) (done op.Add (done op.Mul (w i) (z i)) (done op.Mul (x i) (y i))))) ∙ u.1.value in
      let law = above_law (numbers_le left.0 left.1.0 _ left.1.1.2) (numbers_le right.0 right.1.0 _ right.1.1.2) (reduced_at types values typed a _ w) (reduced_at types values typed b _ x) (reduced_at types values typed c _ y) (reduced_at types values typed d _ z) left.1.1.2 right.1.1.2 told in
      holds_if p _ s.0 s.1 (λ f. holds_if q _ t.0 t.1 (λ g. holds_not_so r u.0 u.1 (law f g)))

  -- a * b == b * a
  pub commutes_is_law : {e l r a b : ClauseLiteral} → IsTruth types e → IsBin terms e op.Eq l r → IsBin terms l op.Mul a b → IsBin terms r op.Mul b a → IsLaw terms types (e ∷ [])
  commutes_is_law {e} {l} {r} {a} {b} truth_e is_e is_l is_r values typed model =
      let u = truth_value values types typed e truth_e in
      let told : done op.Eq (done op.Mul (at a values) (at b values)) (done op.Mul (at b values) (at a values)) ≡ Is (Bool u.0) = sym (bin_at model is_e ∙ (λ i. done op.Eq (bin_at model is_l i) (bin_at model is_r i))) ∙ u.1.value in
      let left = strict op.Eq (done op.Mul (at a values) (at b values)) (done op.Mul (at b values) (at a values)) _ refl told in
      let parts = strict op.Mul (at a values) (at b values) _ refl left.1.1.0 in
      let x = parts.1.1.0 in
      let y = parts.1.1.1 in
      holds_so e u.0 u.1 (commute (numbers_mul parts.0 parts.1.0 _ parts.1.1.2) (sym (λ i. done op.Eq (done op.Mul (x i) (y i)) (done op.Mul (y i) (x i))) ∙ told))

  -- (a * b) * c == a * (b * c)
  pub associates_is_law : {e l r m n a b c : ClauseLiteral} → IsTruth types e → IsBin terms e op.Eq l r → IsBin terms l op.Mul m c → IsBin terms m op.Mul a b → IsBin terms r op.Mul a n → IsBin terms n op.Mul b c → IsLaw terms types (e ∷ [])
  associates_is_law {e} {l} {r} {m} {n} {a} {b} {c} truth_e is_e is_l is_m is_r is_n values typed model =
      let u = truth_value values types typed e truth_e in
      let first = bin_at model is_l ∙ (λ i. done op.Mul (bin_at model is_m i) (at c values)) in
      let second = bin_at model is_r ∙ (λ i. done op.Mul (at a values) (bin_at model is_n i)) in
      let told : done op.Eq (done op.Mul (done op.Mul (at a values) (at b values)) (at c values)) (done op.Mul (at a values) (done op.Mul (at b values) (at c values))) ≡ Is (Bool u.0) = sym (bin_at model is_e ∙ (λ i. done op.Eq (first i) (second i))) ∙ u.1.value in
      let left = strict op.Eq (done op.Mul (done op.Mul (at a values) (at b values)) (at c values)) (done op.Mul (at a values) (done op.Mul (at b values) (at c values))) _ refl told in
      let parts = strict op.Mul (done op.Mul (at a values) (at b values)) (at c values) _ refl left.1.1.0 in
      let inner = strict op.Mul (at a values) (at b values) _ refl parts.1.1.0 in
      let x = inner.1.1.0 in
      let y = inner.1.1.1 in
      let z = parts.1.1.1 in
      holds_so e u.0 u.1 (associate _ (numbers_mul inner.0 inner.1.0 _ inner.1.1.2) (reduced_at types values typed a _ x) (reduced_at types values typed b _ y) (reduced_at types values typed c _ z) (sym (λ i. done op.Eq (done op.Mul (done op.Mul (x i) (y i)) (z i)) (done op.Mul (x i) (done op.Mul (y i) (z i)))) ∙ told))

  -- (a + b) * c == (a * c) + (b * c), or the same with -
  pub distributes_is_law : {e l r m a b c : ClauseLiteral} (o : BOp) → IsAdditive o → IsTruth types e → IsBin terms e op.Eq l r → IsBin terms l op.Mul m c → IsBin terms m o a b → IsOfProducts terms r o a c b c → IsLaw terms types (e ∷ [])
  distributes_is_law {e} {l} {r} {m} {a} {b} {c} o is_o truth_e is_e is_l is_m is_r values typed model =
      let u = truth_value values types typed e truth_e in
      let first = bin_at model is_l ∙ (λ i. done op.Mul (bin_at model is_m i) (at c values)) in
      let told : done op.Eq (done op.Mul (done o (at a values) (at b values)) (at c values)) (done o (done op.Mul (at a values) (at c values)) (done op.Mul (at b values) (at c values))) ≡ Is (Bool u.0) = sym (bin_at model is_e ∙ (λ i. done op.Eq (first i) (products_at model is_r i))) ∙ u.1.value in
      let left = strict op.Eq (done op.Mul (done o (at a values) (at b values)) (at c values)) (done o (done op.Mul (at a values) (at c values)) (done op.Mul (at b values) (at c values))) _ refl told in
      let parts = strict op.Mul (done o (at a values) (at b values)) (at c values) _ refl left.1.1.0 in
      let inner = strict o (at a values) (at b values) _ (additive_strict o is_o) parts.1.1.0 in
      let x = inner.1.1.0 in
      let y = inner.1.1.1 in
      let z = parts.1.1.1 in
      holds_so e u.0 u.1 (distribute o is_o _ (numbers_additive o is_o inner.0 inner.1.0 _ inner.1.1.2) (reduced_at types values typed a _ x) (reduced_at types values typed b _ y) (reduced_at types values typed c _ z) (sym (λ i. done op.Eq (done op.Mul (done o (x i) (y i)) (z i)) (done o (done op.Mul (x i) (z i)) (done op.Mul (y i) (z i)))) ∙ told))

  -- real(a * b) == real(a) * real(b)
  pub whole_is_law : {e l r m x y a b : ClauseLiteral} → IsTruth types e → IsBin terms e op.Eq l r → IsTerm terms l (term.ToReal m) → IsBin terms m op.Mul a b → IsBin terms r op.Mul x y → IsTerm terms x (term.ToReal a) → IsTerm terms y (term.ToReal b) → IsLaw terms types (e ∷ [])
  whole_is_law {e} {l} {r} {m} {x} {y} {a} {b} truth_e is_e is_l is_m is_r is_x is_y values typed model =
      let u = truth_value values types typed e truth_e in
      let first = to_real_at model is_l ∙ (λ i. then_with (bin_at model is_m i) real_from) in
      let second = bin_at model is_r ∙ (λ i. done op.Mul (to_real_at model is_x i) (to_real_at model is_y i)) in
      let told : done op.Eq (then_with (done op.Mul (at a values) (at b values)) real_from) (done op.Mul (then_with (at a values) real_from) (then_with (at b values) real_from)) ≡ Is (Bool u.0) = sym (bin_at model is_e ∙ (λ i. done op.Eq (first i) (second i))) ∙ u.1.value in
      let left = strict op.Eq (then_with (done op.Mul (at a values) (at b values)) real_from) (done op.Mul (then_with (at a values) real_from) (then_with (at b values) real_from)) _ refl told in
      let product = then_value (done op.Mul (at a values) (at b values)) left.0 left.1.1.0 in
      let parts = strict op.Mul (at a values) (at b values) _ refl product.1 in
      let v = parts.1.1.0 in
      let w = parts.1.1.1 in
      holds_so e u.0 u.1 (whole_distributes (numbers_mul parts.0 parts.1.0 _ parts.1.1.2) (sym (λ i. done op.Eq (then_with (done op.Mul (v i) (w i)) real_from) (done op.Mul (then_with (v i) real_from) (then_with (w i) real_from))) ∙ told))
    where
      then_value : (e : End BScalar) (v : BScalar) → then_with e real_from ≡ Is v → (x : BScalar) × (e ≡ Is x)
      then_value (Is x) v h = (x, refl)
      then_value _ v h = absurd cc

  -- the law that the two sides are equal by
  pub ring_is_law : {e l r : ClauseLiteral} → IsTruth types e → IsBin terms e op.Eq l r → IsRing terms l r → IsLaw terms types (e ∷ [])
  ring_is_law truth_e is_e (commutes is_l is_r) = commutes_is_law truth_e is_e is_l is_r
  ring_is_law truth_e is_e (associates is_l is_m is_r) = associates_is_law truth_e is_e is_l is_m is_r.whole is_r.second
  ring_is_law truth_e is_e (distributes {o = o} is_o is_l is_m is_r) = distributes_is_law o is_o truth_e is_e is_l is_m is_r
  ring_is_law truth_e is_e (whole is_l is_m is_r) = whole_is_law truth_e is_e is_l is_m is_r.whole is_r.first is_r.second
