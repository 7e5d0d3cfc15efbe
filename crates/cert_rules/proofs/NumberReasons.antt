-- The clauses of the reasons about the order and division of numbers are laws.
use Rattle.std.proofs.Common.{◌≡◌, true, false, List, [], ◌∷◌, refl, sym, ◌∙◌}
use Rattle.boogie_tree.specs.Program.{BType}
use Rattle.boogie_tree.specs.Value.{Bool}
use Rattle.boogie_tree.specs.declared.exprs.BOp.{BOp}
use Rattle.boogie_tree.specs.declared.exprs.BOp.TheVariants as op
use Rattle.boogie_meaning.specs.Ends.{Is, then_with}
use Rattle.boogie_meaning.specs.Operators.{negative}
use Rattle.cert_terms.specs.Terms.{IsTruth, IsLaw}
use Rattle.cert_terms.specs.Literals.{turned}
use Rattle.cert_terms.specs.declared.terms.ClauseLiteral.{ClauseLiteral}
use Rattle.cert_terms.specs.declared.terms.CertificateTerm.{CertificateTerm}
use Rattle.cert_terms.specs.declared.terms.CertificateTerm.TheVariants as term
use Rattle.cert_terms.proofs.MeaningLaws.{at}
use Rattle.cert_terms.proofs.LiteralLaws.{truth_value}
use Rattle.cert_rules.specs.Shapes.{IsTerm, IsBin, IsZero, IsDivision}
use Rattle.cert_rules.proofs.ScalarLaws.{done, strict, numbers_le, split_law, over_int, over_real, zero_law, division_strict, rest_law, below_law, below_negative}
use Rattle.cert_rules.proofs.NumberValues.{bin_at, neg_at, zero_at, reduced_at, holds_if, holds_not, holds_so, holds_not_so}

module _ (terms : List CertificateTerm) (types : List BType) where
  -- a == b, or not a <= b, or not b <= a
  pub split_is_law : {e l m a b : ClauseLiteral} → IsTruth types e → IsTruth types l → IsTruth types m → IsBin terms e op.Eq a b → IsBin terms l op.Le a b → IsBin terms m op.Le b a → IsLaw terms types (e ∷ turned l ∷ turned m ∷ [])
  split_is_law {e} {l} {m} {a} {b} truth_e truth_l truth_m is_e is_l is_m values typed model =
      let r = truth_value values types typed e truth_e in
      let p = truth_value values types typed l truth_l in
      let q = truth_value values types typed m truth_m in
      let parts = strict op.Le (at a values) (at b values) (Bool p.0) refl (sym (bin_at model is_l) ∙ p.1.value) in
      let x = parts.1.1.0 in
      let y = parts.1.1.1 in
      let law = split_law (numbers_le parts.0 parts.1.0 _ parts.1.1.2) (reduced_at types values typed a _ x) (reduced_at types values typed b _ y) (sym (bin_at model is_e ∙ (λ i. done op.Eq (x i) (y i))) ∙ r.1.value) parts.1.1.2 (sym (bin_at model is_m ∙ (λ i. done op.Le (y i) (x i))) ∙ q.1.value) in
      holds_if e _ r.0 r.1 (λ other. holds_not l _ p.0 p.1 (λ low. holds_not m _ q.0 q.1 (λ high. absurd (let f : false ≡ true = sym other ∙ law low high in cc))))

  -- b == 0, or (a / b) * b == a
  pub over_real_is_law : {z e o m d a b : ClauseLiteral} → IsTruth types z → IsTruth types e → IsBin terms z op.Eq b o → IsZero terms o → IsBin terms e op.Eq m a → IsBin terms m op.Mul d b → IsBin terms d op.Divide a b → IsLaw terms types (z ∷ e ∷ [])
  over_real_is_law {z} {e} {o} {m} {d} {a} {b} truth_z truth_e is_z is_o is_e is_m is_d values typed model =
      let p = truth_value values types typed z truth_z in
      let r = truth_value values types typed e truth_e in
      let zero = zero_at model is_o in
      let tested : done op.Eq (at b values) (at o values) ≡ Is (Bool p.0) = sym (bin_at model is_z) ∙ p.1.value in
      let told : done op.Eq (done op.Mul (done op.Divide (at a values) (at b values)) (at b values)) (at a values) ≡ Is (Bool r.0) =
      sym (bin_at model is_e ∙ (λ i. done op.Eq (bin_at model is_m i) (at a values)) ∙ (λ i. done op.Eq (done op.Mul (bin_at model is_d i) (at b values)) (at a values))) ∙ r.1.value in
      let y = (strict op.Eq (at b values) (at o values) _ refl tested).1.1.0 in
      let x = (strict op.Eq (done op.Mul (done op.Divide (at a values) (at b values)) (at b values)) (at a values) _ refl told).1.1.1 in
      let law = over_real _ _ zero.1.1 (reduced_at types values typed a _ x) (reduced_at types values typed b _ y) (sym (λ i. done op.Eq (y i) (zero.1.0 i)) ∙ tested) (sym (λ i. done op.Eq (done op.Mul (done op.Divide (x i) (y i)) (y i)) (x i)) ∙ told) in
      holds_if z _ p.0 p.1 (λ other. holds_so e r.0 r.1 (law other))

  -- b == 0, or (b * (a div b)) + (a mod b) == a
  pub over_int_is_law : {z e o s m q w a b : ClauseLiteral} → IsTruth types z → IsTruth types e → IsBin terms z op.Eq b o → IsZero terms o → IsBin terms e op.Eq s a → IsBin terms s op.Add m w → IsBin terms m op.Mul b q → IsBin terms q op.IntDiv a b → IsBin terms w op.IntMod a b → IsLaw terms types (z ∷ e ∷ [])
  over_int_is_law {z} {e} {o} {s} {m} {q} {w} {a} {b} truth_z truth_e is_z is_o is_e is_s is_m is_q is_w values typed model =
      let p = truth_value values types typed z truth_z in
      let r = truth_value values types typed e truth_e in
      let zero = zero_at model is_o in
      let tested : done op.Eq (at b values) (at o values) ≡ Is (Bool p.0) = sym (bin_at model is_z) ∙ p.1.value in
      let told : done op.Eq (done op.Add (done op.Mul (at b values) (done op.IntDiv (at a values) (at b values))) (done op.IntMod (at a values) (at b values))) (at a values) ≡ Is (Bool r.0) =
      sym (bin_at model is_e ∙ (λ i. done op.Eq (bin_at model is_s i) (at a values)) ∙ (λ i. done op.Eq (done op.Add (bin_at model is_m i) (bin_at model is_w i)) (at a values)) ∙ (λ i. done op.Eq (done op.Add (done op.Mul (at b values) (bin_at model is_q i)) (done op.IntMod (at a values) (at b values))) (at a values))) ∙ r.1.value in
      let y = (strict op.Eq (at b values) (at o values) _ refl tested).1.1.0 in
      let x = (strict op.Eq (done op.Add (done op.Mul (at b values) (done op.IntDiv (at a values) (at b values))) (done op.IntMod (at a values) (at b values))) (at a values) _ refl told).1.1.1 in
      let law = over_int _ _ zero.1.1 (sym (λ i. done op.Eq (y i) (zero.1.0 i)) ∙ tested) (sym (λ i. done op.Eq (done op.Add (done op.Mul (y i) (done op.IntDiv (x i) (y i))) (done op.IntMod (x i) (y i))) (x i)) ∙ told) in
      holds_if z _ p.0 p.1 (λ other. holds_so e r.0 r.1 (law other))

  -- not b == 0, or a / b == 0, or the same of `div` and `mod`
  pub zero_is_law : {z e o d w a b : ClauseLiteral} (by : BOp) → IsDivision by → IsTruth types z → IsTruth types e → IsBin terms z op.Eq b o → IsZero terms o → IsBin terms e op.Eq d w → IsZero terms w → IsBin terms d by a b → IsLaw terms types (turned z ∷ e ∷ [])
  zero_is_law {z} {e} {o} {d} {w} {a} {b} by is_by truth_z truth_e is_z is_o is_e is_w is_d values typed model =
      let p = truth_value values types typed z truth_z in
      let r = truth_value values types typed e truth_e in
      let zero = zero_at model is_o in
      let result = zero_at model is_w in
      let tested : done op.Eq (at b values) (at o values) ≡ Is (Bool p.0) = sym (bin_at model is_z) ∙ p.1.value in
      let told : done op.Eq (done by (at a values) (at b values)) (at w values) ≡ Is (Bool r.0) = sym (bin_at model is_e ∙ (λ i. done op.Eq (bin_at model is_d i) (at w values))) ∙ r.1.value in
      let left = strict op.Eq (done by (at a values) (at b values)) (at w values) _ refl told in
      let parts = strict by (at a values) (at b values) _ (division_strict by is_by) left.1.1.0 in
      let x = parts.1.1.0 in
      let y = parts.1.1.1 in
      let law = zero_law by is_by _ _ zero.1.1 result.1.1 (sym (λ i. done op.Eq (y i) (zero.1.0 i)) ∙ tested) (sym (λ i. done op.Eq (done by (x i) (y i)) (result.1.0 i)) ∙ told) in
      holds_not z _ p.0 p.1 (λ is. holds_so e r.0 r.1 (law is))

  -- 0 <= a mod b
  pub rest_is_law : {l o w a b : ClauseLiteral} → IsTruth types l → IsBin terms l op.Le o w → IsZero terms o → IsBin terms w op.IntMod a b → IsLaw terms types (l ∷ [])
  rest_is_law {l} {o} {w} {a} {b} truth_l is_l is_o is_w values typed model =
      let r = truth_value values types typed l truth_l in
      let zero = zero_at model is_o in
      let told : done op.Le (at o values) (done op.IntMod (at a values) (at b values)) ≡ Is (Bool r.0) = sym (bin_at model is_l ∙ (λ i. done op.Le (at o values) (bin_at model is_w i))) ∙ r.1.value in
      let right = strict op.Le (at o values) (done op.IntMod (at a values) (at b values)) _ refl told in
      let parts = strict op.IntMod (at a values) (at b values) _ refl right.1.1.1 in
      let x = parts.1.1.0 in
      let y = parts.1.1.1 in
      holds_so l r.0 r.1 (rest_law _ _ zero.1.1 (sym (λ i. done op.Le (zero.1.0 i) (done op.IntMod (x i) (y i))) ∙ told))

  -- b <= 0, or not b <= a mod b
  pub below_is_law : {l m o w a b : ClauseLiteral} → IsTruth types l → IsTruth types m → IsBin terms l op.Le b o → IsZero terms o → IsBin terms m op.Le b w → IsBin terms w op.IntMod a b → IsLaw terms types (l ∷ turned m ∷ [])
  below_is_law {l} {m} {o} {w} {a} {b} truth_l truth_m is_l is_o is_m is_w values typed model =
      let p = truth_value values types typed l truth_l in
      let r = truth_value values types typed m truth_m in
      let zero = zero_at model is_o in
      let tested : done op.Le (at b values) (at o values) ≡ Is (Bool p.0) = sym (bin_at model is_l) ∙ p.1.value in
      let told : done op.Le (at b values) (done op.IntMod (at a values) (at b values)) ≡ Is (Bool r.0) = sym (bin_at model is_m ∙ (λ i. done op.Le (at b values) (bin_at model is_w i))) ∙ r.1.value in
      let right = strict op.Le (at b values) (done op.IntMod (at a values) (at b values)) _ refl told in
      let parts = strict op.IntMod (at a values) (at b values) _ refl right.1.1.1 in
      let x = parts.1.1.0 in
      let y = parts.1.1.1 in
      let law = below_law _ _ zero.1.1 (sym (λ i. done op.Le (y i) (zero.1.0 i)) ∙ tested) (sym (λ i. done op.Le (y i) (done op.IntMod (x i) (y i))) ∙ told) in
      holds_if l _ p.0 p.1 (λ other. holds_not_so m r.0 r.1 (law other))

  -- 0 <= b, or not - b <= a mod b
  pub below_negative_is_law : {l m o n w a b : ClauseLiteral} → IsTruth types l → IsTruth types m → IsBin terms l op.Le o b → IsZero terms o → IsBin terms m op.Le n w → IsTerm terms n (term.Neg b) → IsBin terms w op.IntMod a b → IsLaw terms types (l ∷ turned m ∷ [])
  below_negative_is_law {l} {m} {o} {n} {w} {a} {b} truth_l truth_m is_l is_o is_m is_n is_w values typed model =
      let p = truth_value values types typed l truth_l in
      let r = truth_value values types typed m truth_m in
      let zero = zero_at model is_o in
      let tested : done op.Le (at o values) (at b values) ≡ Is (Bool p.0) = sym (bin_at model is_l) ∙ p.1.value in
      let told : done op.Le (then_with (at b values) negative) (done op.IntMod (at a values) (at b values)) ≡ Is (Bool r.0) = sym (bin_at model is_m ∙ (λ i. done op.Le (neg_at model is_n i) (bin_at model is_w i))) ∙ r.1.value in
      let right = strict op.Le (then_with (at b values) negative) (done op.IntMod (at a values) (at b values)) _ refl told in
      let parts = strict op.IntMod (at a values) (at b values) _ refl right.1.1.1 in
      let x = parts.1.1.0 in
      let y = parts.1.1.1 in
      let law = below_negative _ _ zero.1.1 (sym (λ i. done op.Le (zero.1.0 i) (y i)) ∙ tested) (sym (λ i. done op.Le (then_with (y i) negative) (done op.IntMod (x i) (y i))) ∙ told) in
      holds_if l _ p.0 p.1 (λ other. holds_not_so m r.0 r.1 (law other))
