-- Connectives and comparisons by `&&`, `==`, `<=` and negation.
use Rattle.std.proofs.Common.{◌≡◌, Bool as Truth, true, false, not, Some, List, if◌then◌else◌, refl, sym, ap, ◌∙◌}
use Rattle.std.specs.Ordering.{int_cmp, is_lt, is_le, is_gt, is_ge, ordering_reverse}
use Rattle.std.specs.declared.cmp.Ordering.{Ordering}
use Rattle.std.specs.declared.cmp.Ordering.TheVariants.{Less, Equal, Greater}
use Rattle.std.proofs.lemmas.Cmp.{int_cmp_total}
use Rattle.vb_value.specs.Bound.{Unbounded}
use Rattle.vb_value.specs.Fraction.{order}
use Rattle.vb_value.proofs.OrderLaws.{order_antisymm}
use Rattle.boogie_tree.specs.Program.{BType}
use Rattle.boogie_tree.specs.Value.{BScalar, BValue, Int, Bool, Ref, Real, Snap, same_scalar}
use Rattle.boogie_tree.specs.Values.{same_base, base_of_scalar, IsEnvironment}
use Rattle.boogie_tree.specs.declared.exprs.BBase.{BBase}
use Rattle.boogie_tree.specs.declared.exprs.BBase.TheVariants as base
use Rattle.boogie_tree.specs.declared.exprs.BOp.{BOp}
use Rattle.boogie_tree.specs.declared.exprs.BOp.TheVariants as op
use Rattle.boogie_meaning.specs.Ends.{End, Is, Wrong, then_with}
use Rattle.boogie_meaning.specs.Operators.{negation, binary, equal, compared}
use Rattle.boogie_meaning.specs.Types.{answer_of}
use Rattle.boogie_formula.specs.Types.{fbase}
use Rattle.cert_terms.specs.Literals.{turned}
use Rattle.cert_terms.specs.Terms.{operand}
use Rattle.cert_terms.specs.declared.terms.ClauseLiteral.{ClauseLiteral}
use Rattle.cert_terms.proofs.ValueLaws.{fvalue_there}
use Rattle.cert_terms.proofs.LiteralLaws.{truth_value}
use Rattle.cert_terms.proofs.MeaningLaws.{at}
use Rattle.cert_terms.proofs.PartLaws.{TakesBoth}
use Rattle.cert_definitions.specs.Texts.{core, is_turned, left_of, right_of}

-- the end, or its negation
abbrev pub signed_end : Truth → End BScalar → End BScalar
signed_end true e = then_with e negation
signed_end false e = e

reversed_lt : (o : Ordering) → is_lt (ordering_reverse o) ≡ not (is_le o)
reversed_lt Less = refl
reversed_lt Equal = refl
reversed_lt Greater = refl

reversed_ge : (o : Ordering) → is_ge (ordering_reverse o) ≡ is_le o
reversed_ge Less = refl
reversed_ge Equal = refl
reversed_ge Greater = refl

gt_le : (o : Ordering) → is_gt o ≡ not (is_le o)
gt_le Less = refl
gt_le Equal = refl
gt_le Greater = refl

abbrev to_bool : Truth → End BScalar
to_bool p = Is (Bool p)

less_is : (v w : BScalar) → compared Unbounded is_lt w v ≡ then_with (compared Unbounded is_le v w) negation
less_is (Int x) (Int y) = ap to_bool (ap is_lt (int_cmp_total.antisymm y x) ∙ reversed_lt (int_cmp x y))
less_is (Real p) (Real q) = ap to_bool (ap is_lt (order_antisymm q p) ∙ reversed_lt (order p q))
less_is (Int x) (Bool y) = refl
less_is (Int x) (Ref y) = refl
less_is (Int x) (Real y) = refl
less_is (Int x) (Snap y) = refl
less_is (Bool x) (Int y) = refl
less_is (Bool x) (Bool y) = refl
less_is (Bool x) (Ref y) = refl
less_is (Bool x) (Real y) = refl
less_is (Bool x) (Snap y) = refl
less_is (Ref x) (Int y) = refl
less_is (Ref x) (Bool y) = refl
less_is (Ref x) (Ref y) = refl
less_is (Ref x) (Real y) = refl
less_is (Ref x) (Snap y) = refl
less_is (Real x) (Int y) = refl
less_is (Real x) (Bool y) = refl
less_is (Real x) (Ref y) = refl
less_is (Real x) (Snap y) = refl
less_is (Snap x) (Int y) = refl
less_is (Snap x) (Bool y) = refl
less_is (Snap x) (Ref y) = refl
less_is (Snap x) (Real y) = refl
less_is (Snap x) (Snap y) = refl

above_is : (v w : BScalar) → compared Unbounded is_ge w v ≡ compared Unbounded is_le v w
above_is (Int x) (Int y) = ap to_bool (ap is_ge (int_cmp_total.antisymm y x) ∙ reversed_ge (int_cmp x y))
above_is (Real p) (Real q) = ap to_bool (ap is_ge (order_antisymm q p) ∙ reversed_ge (order p q))
above_is (Int x) (Bool y) = refl
above_is (Int x) (Ref y) = refl
above_is (Int x) (Real y) = refl
above_is (Int x) (Snap y) = refl
above_is (Bool x) (Int y) = refl
above_is (Bool x) (Bool y) = refl
above_is (Bool x) (Ref y) = refl
above_is (Bool x) (Real y) = refl
above_is (Bool x) (Snap y) = refl
above_is (Ref x) (Int y) = refl
above_is (Ref x) (Bool y) = refl
above_is (Ref x) (Ref y) = refl
above_is (Ref x) (Real y) = refl
above_is (Ref x) (Snap y) = refl
above_is (Real x) (Int y) = refl
above_is (Real x) (Bool y) = refl
above_is (Real x) (Ref y) = refl
above_is (Real x) (Snap y) = refl
above_is (Snap x) (Int y) = refl
above_is (Snap x) (Bool y) = refl
above_is (Snap x) (Ref y) = refl
above_is (Snap x) (Real y) = refl
above_is (Snap x) (Snap y) = refl

more_is : (v w : BScalar) → compared Unbounded is_gt v w ≡ then_with (compared Unbounded is_le v w) negation
more_is (Int x) (Int y) = ap to_bool (gt_le (int_cmp x y))
more_is (Real p) (Real q) = ap to_bool (gt_le (order p q))
more_is _ _ = refl

differ_is : (v w : BScalar) → equal not v w ≡ then_with (equal (λ p. p) v w) negation
differ_is v w = by_base (same_base (base_of_scalar v) (base_of_scalar w))
  where
    by_base : (s : Truth) → (if s then Is (Bool (not (same_scalar v w))) else Wrong) ≡ then_with (if s then Is (Bool (same_scalar v w)) else Wrong) negation
    by_base true = refl
    by_base false = refl

or_is : (p q : Truth) → binary Unbounded op.Or (to_bool (not p)) (to_bool (not q)) ≡ then_with (binary Unbounded op.And (to_bool p) (to_bool q)) negation
or_is true true = refl
or_is true false = refl
or_is false true = refl
or_is false false = refl

implies_is : (p q : Truth) → binary Unbounded op.Implies (to_bool p) (to_bool (not q)) ≡ then_with (binary Unbounded op.And (to_bool p) (to_bool q)) negation
implies_is true true = refl
implies_is true false = refl
implies_is false q = refl

and_bool : (u w : BBase) → answer_of op.And u ≡ Some w → u ≡ base.Bool
and_bool base.Bool w h = refl
and_bool _ w h = absurd (cc)

module _ (types : List BType) (values : List BValue) (typed : IsEnvironment types values) (x y : ClauseLiteral) where
  module _ (go to : End BScalar → End BScalar → End BScalar) (u : BBase) (h : fbase types (operand x) ≡ Some u) (g : fbase types (operand y) ≡ Some u)
      (same : (v w : BScalar) → go (Is v) (Is w) ≡ to (Is v) (Is w)) where
    at_both : go (at x values) (at y values) ≡ to (at x values) (at y values)
    at_both =
        let v = fvalue_there types values typed (operand x) u h in
        let w = fvalue_there types values typed (operand y) u g in
        let p = v.1 in let q = w.1 in
        (λ i. go (p i) (q i)) ∙ same v.0 w.0 ∙ sym (λ i. to (p i) (q i))

  module _ (h : fbase types (operand x) ≡ Some base.Bool) (g : fbase types (operand y) ≡ Some base.Bool) where
    iff_bools : binary Unbounded op.Iff (at x values) (at y values) ≡ binary Unbounded op.Eq (at x values) (at y values)
    iff_bools =
        let v = truth_value values types typed x h in
        let w = truth_value values types typed y g in
        let p = v.1.value in let q = w.1.value in
        (λ i. binary Unbounded op.Iff (p i) (q i)) ∙ sym (λ i. binary Unbounded op.Eq (p i) (q i))

    or_bools : binary Unbounded op.Or (at (turned x) values) (at (turned y) values) ≡ then_with (binary Unbounded op.And (at x values) (at y values)) negation
    or_bools =
        let v = truth_value values types typed x h in
        let w = truth_value values types typed y g in
        let p = v.1.value in let q = w.1.value in
        let r = v.1.other in let s = w.1.other in
        (λ i. binary Unbounded op.Or (r i) (s i)) ∙ or_is v.0 w.0 ∙ sym (λ i. then_with (binary Unbounded op.And (p i) (q i)) negation)

    implies_bools : binary Unbounded op.Implies (at x values) (at (turned y) values) ≡ then_with (binary Unbounded op.And (at x values) (at y values)) negation
    implies_bools =
        let v = truth_value values types typed x h in
        let w = truth_value values types typed y g in
        let p = v.1.value in let q = w.1.value in
        let s = w.1.other in
        (λ i. binary Unbounded op.Implies (p i) (s i)) ∙ implies_is v.0 w.0 ∙ sym (λ i. then_with (binary Unbounded op.And (p i) (q i)) negation)

  -- an operator by the one by which it is put
  pub put_by_core : (o : BOp) → TakesBoth types (core o) x y → (o ≡ op.Iff → fbase types (operand x) ≡ Some base.Bool) →
      binary Unbounded o (at (left_of o x y) values) (at (right_of o x y) values) ≡ signed_end (is_turned o) (binary Unbounded (core o) (at x values) (at y values))
  put_by_core op.Or b i = let e = and_bool b.kind b.answer b.takes in or_bools (b.left ∙ ap Some e) (b.right ∙ ap Some e)
  put_by_core op.Implies b i = let e = and_bool b.kind b.answer b.takes in implies_bools (b.left ∙ ap Some e) (b.right ∙ ap Some e)
  put_by_core op.Iff b i = let l = i refl in iff_bools l (b.right ∙ sym b.left ∙ l)
  put_by_core op.Ne b i = at_both (λ e g. binary Unbounded op.Ne e g) (λ e g. then_with (binary Unbounded op.Eq e g) negation) b.kind b.left b.right differ_is
  put_by_core op.Lt b i = at_both (λ e g. binary Unbounded op.Lt g e) (λ e g. then_with (binary Unbounded op.Le e g) negation) b.kind b.left b.right less_is
  put_by_core op.Gt b i = at_both (λ e g. binary Unbounded op.Gt e g) (λ e g. then_with (binary Unbounded op.Le e g) negation) b.kind b.left b.right more_is
  put_by_core op.Ge b i = at_both (λ e g. binary Unbounded op.Ge g e) (λ e g. binary Unbounded op.Le e g) b.kind b.left b.right above_is
  put_by_core _ b i = refl
