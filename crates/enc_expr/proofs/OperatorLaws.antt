-- Operators of Viper have the values of those of Boogie.
use Rattle.std.proofs.Common.{if◌then◌else◌, ◌≡◌, ◌≢◌, ℤ, pos, ◌+ℤ◌, ◌-ℤ◌, ◌*ℤ◌, Bool, true, false, not, Some, refl, ap, sym, ◌∙◌}
use Rattle.std.specs.Ordering.{is_lt, is_le, is_gt, is_ge}
use Rattle.std.specs.declared.cmp.Ordering.{Ordering}
use Rattle.std.specs.Int.{int_div_euclid, int_rem_euclid}
use Rattle.lemmas.proofs.Numbers.{apart_from_zero}
use Rattle.vb_base.specs.declared.places.Pos.{Pos}
use Rattle.vb_value.specs.Bound.{Bound, Bounded, Unbounded, IfBounded, IsWithin, is_within}
use Rattle.vb_value.specs.Fraction.{Fraction, IsWithinFraction, whole, none, fits_quotient, fits_quotient_by, fits_order, fits_sum, fits_difference, fits_product, order, sum, difference, product, quotient, quotient_by}
use Rattle.vb_value.specs.Value.{type_of, IsProperValue, value_eq}
use Rattle.vb_value.specs.declared.values.Ty.{Ty}
use Rattle.vb_value.specs.declared.values.Ty.TheVariants as ty
use Rattle.vb_value.specs.declared.values.Value.{Value}
use Rattle.vb_value.specs.declared.values.Value.TheVariants.{Int, Bool as Truth, Ref, Perm}
use Rattle.vb_value.proofs.OperationLaws.{quotient-whole}
use Rattle.vb_value.proofs.ProperLaws.{proper_whole}
use Rattle.vb_value.proofs.RepresentableLaws.{fits_quotient-whole}
use Rattle.viper_core.specs.declared.exprs.Op.{Op}
use Rattle.viper_core.specs.declared.exprs.Op.TheVariants as o
use Rattle.viper_core.specs.Typing.{value_type, is_number}
use Rattle.viper_state.specs.Run.{Scene}
use Rattle.viper_meaning.specs.Ends as e
use Rattle.viper_meaning.specs.Operators as m
use Rattle.viper_meaning.specs.Operators.{class_of, Plain, Division}
use Rattle.boogie_tree.specs.Expr as t
use Rattle.boogie_tree.specs.Value as s
use Rattle.boogie_tree.specs.Value.{BScalar}
use Rattle.boogie_tree.specs.declared.exprs.BBase.TheVariants as base
use Rattle.boogie_tree.specs.declared.exprs.BOp.{BOp}
use Rattle.boogie_tree.specs.declared.exprs.BOp.TheVariants as op
use Rattle.boogie_meaning.specs.Ends.{End, Is, fitting, then_with}
use Rattle.boogie_meaning.specs.Operators as r
use Rattle.boogie_meaning.specs.Quantified.{bvalue}
use Rattle.moves.specs.Scalars.{scalar, base_for}
use Rattle.enc_expr.specs.Pieces.{Operand, real}
use Rattle.enc_expr.specs.Operators.{operand_of, plain_operand, product_operand, quotient_operand}
use Rattle.enc_expr.specs.Coupling.{Env}
use Rattle.enc_expr.proofs.Simulated.{Computes, value, over, Has}

-- both operands have their values
pub record HaveBoth (b : Bound) (x y : Operand) (v w : Value) (E : Env) : Type 0 where
  pub left : Has b x.expr v E
  pub right : Has b y.expr w E

-- ---- expressions

-- an operator that looks at both sides
pub plain_value : (b : Bound) (f : BOp) (x y : t.BExpr) (v w : BScalar) (E : Env) → r.is_lazy f ≡ false → bvalue b x E ≡ Is v → bvalue b y E ≡ Is w → bvalue b (t.Bin f x y) E ≡ r.plain b f v w
plain_value b f x y v w E plain h i = rw (plain, h, i)

-- an int as a real
to_real_value : (b : Bound) (x : t.BExpr) (n : ℤ) (E : Env) → bvalue b x E ≡ Is (s.Int n) → bvalue b (t.ToReal x) E ≡ Is (s.Real (whole n))
to_real_value b x n E h = rw h

pub real_value : (b : Bound) (x : t.BExpr) (n : ℤ) (E : Env) → bvalue b x E ≡ Is (s.Int n) → bvalue b (real x) E ≡ Is (s.Real (whole n))
real_value b (t.Int k) n E h = let e : k ≡ n = cc in rw e
real_value b x n E h = to_real_value b x n E h

-- a value that fits is that of Viper
fitting_computes : (b : Bound) (u : Ty) (z : Operand) (K : Env → Type 0) (fits : Bool) (at : Pos) (v : Value) → type_of v ≡ u → z.base ≡ base_for u →
    ((E : Env) → K E → bvalue b z.expr E ≡ fitting b fits (scalar v)) → Computes b u z K (e.fitting b fits at v)
fitting_computes Unbounded u z K fits at v typed base h = value typed base h
fitting_computes Bounded u z K true at v typed base h = value typed base h
fitting_computes Bounded u z K false at v typed base h = over refl

-- ---- plain operators

-- the order of two numbers
compared_computes : (b : Bound) (test : Ordering → Bool) (f : BOp) (x y : Operand) (v w : Value) (at : Pos) (u : Ty) → r.is_lazy f ≡ false →
    ((p q : BScalar) → r.plain b f p q ≡ r.compared b test p q) → value_type o.Lt (type_of v) (type_of w) ≡ Some u →
    Computes b u (record { expr = t.Bin f x.expr y.expr; base = base.Bool }) (HaveBoth b x y v w) (m.compared b test v w at)
compared_computes b test f x y (Int i) (Int j) at u lazy same typed = let h : ty.Bool ≡ u = cc in
    value h (ap base_for h) (λ E k. plain_value b f x.expr y.expr _ _ E lazy k.left.value k.right.value ∙ same _ _)
compared_computes b test f x y (Perm p) (Perm q) at u lazy same typed = let h : ty.Bool ≡ u = cc in
    fitting_computes b u _ _ (fits_order p q) at (Truth (test (order p q))) h (ap base_for h) (λ E k. plain_value b f x.expr y.expr _ _ E lazy k.left.value k.right.value ∙ same _ _)
compared_computes b test f x y v w at u lazy same typed = absurd cc

-- whether two values of one type are the same
equal_computes : (b : Bound) (side : Bool → Bool) (f : BOp) (x y : Operand) (v w : Value) (u : Ty) → r.is_lazy f ≡ false →
    ((p q : BScalar) → r.plain b f p q ≡ r.equal side p q) → value_type o.Eq (type_of v) (type_of w) ≡ Some u →
    Computes b u (record { expr = t.Bin f x.expr y.expr; base = base.Bool }) (HaveBoth b x y v w) (e.is (Truth (side (value_eq v w))))
equal_computes b side f x y (Int i) (Int j) u lazy same typed = let h : ty.Bool ≡ u = cc in value h (ap base_for h) (λ E k. plain_value b f x.expr y.expr _ _ E lazy k.left.value k.right.value ∙ same _ _)
equal_computes b side f x y (Truth i) (Truth j) u lazy same typed = let h : ty.Bool ≡ u = cc in value h (ap base_for h) (λ E k. plain_value b f x.expr y.expr _ _ E lazy k.left.value k.right.value ∙ same _ _)
equal_computes b side f x y (Ref i) (Ref j) u lazy same typed = let h : ty.Bool ≡ u = cc in value h (ap base_for h) (λ E k. plain_value b f x.expr y.expr _ _ E lazy k.left.value k.right.value ∙ same _ _)
equal_computes b side f x y (Perm i) (Perm j) u lazy same typed = let h : ty.Bool ≡ u = cc in value h (ap base_for h) (λ E k. plain_value b f x.expr y.expr _ _ E lazy k.left.value k.right.value ∙ same _ _)
equal_computes b side f x y v w u lazy same typed = absurd cc

iff_computes : (b : Bound) (x y : Operand) (v w : Value) (at : Pos) (u : Ty) → value_type o.Iff (type_of v) (type_of w) ≡ Some u →
    Computes b u (plain_operand o.Iff x y) (HaveBoth b x y v w) (m.same_truth v w)
iff_computes b x y (Truth i) (Truth j) at u typed = let h : ty.Bool ≡ u = cc in value h (ap base_for h) (λ E k. plain_value b op.Iff x.expr y.expr _ _ E refl k.left.value k.right.value)
iff_computes b x y v w at u typed = absurd cc

sum_computes : (b : Bound) (x y : Operand) (v w : Value) (at : Pos) (u : Ty) → value_type o.Add (type_of v) (type_of w) ≡ Some u → x.base ≡ base_for (type_of v) →
    Computes b u (plain_operand o.Add x y) (HaveBoth b x y v w) (m.sum_of b v w at)
sum_computes b x y (Int i) (Int j) at u typed left = let h : ty.Int ≡ u = cc in
    fitting_computes b u _ _ (is_within (i +ℤ j)) at (Int (i +ℤ j)) h (left ∙ ap base_for h) (λ E k. plain_value b op.Add x.expr y.expr _ _ E refl k.left.value k.right.value)
sum_computes b x y (Perm p) (Perm q) at u typed left = let h : ty.Perm ≡ u = cc in
    fitting_computes b u _ _ (fits_sum p q) at (Perm (sum p q)) h (left ∙ ap base_for h) (λ E k. plain_value b op.Add x.expr y.expr _ _ E refl k.left.value k.right.value)
sum_computes b x y v w at u typed left = absurd cc

difference_computes : (b : Bound) (x y : Operand) (v w : Value) (at : Pos) (u : Ty) → value_type o.Sub (type_of v) (type_of w) ≡ Some u → x.base ≡ base_for (type_of v) →
    Computes b u (plain_operand o.Sub x y) (HaveBoth b x y v w) (m.difference_of b v w at)
difference_computes b x y (Int i) (Int j) at u typed left = let h : ty.Int ≡ u = cc in
    fitting_computes b u _ _ (is_within (i -ℤ j)) at (Int (i -ℤ j)) h (left ∙ ap base_for h) (λ E k. plain_value b op.Sub x.expr y.expr _ _ E refl k.left.value k.right.value)
difference_computes b x y (Perm p) (Perm q) at u typed left = let h : ty.Perm ≡ u = cc in
    fitting_computes b u _ _ (fits_difference p q) at (Perm (difference p q)) h (left ∙ ap base_for h) (λ E k. plain_value b op.Sub x.expr y.expr _ _ E refl k.left.value k.right.value)
difference_computes b x y v w at u typed left = absurd cc

-- of an Int and a Perm the Int is a real
product_computes : (b : Bound) (x y : Operand) (v w : Value) (at : Pos) (u : Ty) → value_type o.Mul (type_of v) (type_of w) ≡ Some u → x.base ≡ base_for (type_of v) → y.base ≡ base_for (type_of w) →
    Computes b u (product_operand x y) (HaveBoth b x y v w) (m.product_of b v w at)
product_computes b x y (Int i) (Int j) at u typed left right = let h : ty.Int ≡ u = cc in rw (left, right)
    (fitting_computes b u _ _ (is_within (i *ℤ j)) at (Int (i *ℤ j)) h (ap base_for h) (λ E k. plain_value b op.Mul x.expr y.expr _ _ E refl k.left.value k.right.value))
product_computes b x y (Int i) (Perm q) at u typed left right = let h : ty.Perm ≡ u = cc in rw (left, right)
    (fitting_computes b u _ _ (fits_product (whole i) q) at (Perm (product (whole i) q)) h (ap base_for h) (λ E k. plain_value b op.Mul (real x.expr) y.expr _ _ E refl (real_value b x.expr i E k.left.value) k.right.value))
product_computes b x y (Perm p) (Int j) at u typed left right = let h : ty.Perm ≡ u = cc in rw (left, right)
    (fitting_computes b u _ _ (fits_product p (whole j)) at (Perm (product p (whole j))) h (ap base_for h) (λ E k. plain_value b op.Mul x.expr (real y.expr) _ _ E refl k.left.value (real_value b y.expr j E k.right.value)))
product_computes b x y (Perm p) (Perm q) at u typed left right = let h : ty.Perm ≡ u = cc in rw (left, right)
    (fitting_computes b u _ _ (fits_product p q) at (Perm (product p q)) h (ap base_for h) (λ E k. plain_value b op.Mul x.expr y.expr _ _ E refl k.left.value k.right.value))
product_computes b x y v w at u typed left right = absurd cc

pub plain_computes : (b : Bound) (o : Op) (x y : Operand) (v w : Value) (at : Pos) (u : Ty) → class_of o ≡ Plain → value_type o (type_of v) (type_of w) ≡ Some u →
    x.base ≡ base_for (type_of v) → y.base ≡ base_for (type_of w) → Computes b u (operand_of o x y) (HaveBoth b x y v w) (m.plain b o v w at)
plain_computes b o.Iff x y v w at u plain typed left right = iff_computes b x y v w at u typed
plain_computes b o.Eq x y v w at u plain typed left right = equal_computes b (λ p. p) op.Eq x y v w u refl (λ p q. refl) typed
plain_computes b o.Ne x y v w at u plain typed left right = equal_computes b not op.Ne x y v w u refl (λ p q. refl) typed
plain_computes b o.Lt x y v w at u plain typed left right = compared_computes b is_lt op.Lt x y v w at u refl (λ p q. refl) typed
plain_computes b o.Le x y v w at u plain typed left right = compared_computes b is_le op.Le x y v w at u refl (λ p q. refl) typed
plain_computes b o.Gt x y v w at u plain typed left right = compared_computes b is_gt op.Gt x y v w at u refl (λ p q. refl) typed
plain_computes b o.Ge x y v w at u plain typed left right = compared_computes b is_ge op.Ge x y v w at u refl (λ p q. refl) typed
plain_computes b o.Add x y v w at u plain typed left right = sum_computes b x y v w at u typed left
plain_computes b o.Sub x y v w at u plain typed left right = difference_computes b x y v w at u typed left
plain_computes b o.Mul x y v w at u plain typed left right = product_computes b x y v w at u typed left right
plain_computes b o x y v w at u plain typed left right = absurd cc

-- ---- divisions

-- its quotient is that of Viper, and so are the numbers that are to fit
same_fits : (b : Bound) (p : Fraction) (d : ℤ) → IfBounded b (IsWithinFraction p) → fitting b (fits_quotient p (whole d)) (s.Real (quotient_by p d)) ≡ fitting b (fits_quotient_by p d) (s.Real (quotient_by p d))
same_fits Unbounded p d within = refl
same_fits Bounded p d within = ap (λ (f : Bool). fitting Bounded f (s.Real (quotient_by p d))) (sym (fits_quotient-whole p d within))

real_quotient : (b : Bound) (p : Fraction) (d : ℤ) → IfBounded b (IsWithinFraction p) → d ≢ pos 0 →
    r.plain b op.Divide (s.Real p) (s.Real (whole d)) ≡ fitting b (fits_quotient_by p d) (s.Real (quotient_by p d))
real_quotient b p d within some =
    ap (λ (z : Bool). if z then Is (s.Real none) else fitting b (fits_quotient p (whole d)) (s.Real (quotient p (whole d)))) (apart_from_zero d some)
    ∙ ap (λ (q : Fraction). fitting b (fits_quotient p (whole d)) (s.Real q)) (quotient-whole p d) ∙ same_fits b p d within

quotient_computes : (b : Bound) (sc : Scene) (l y : t.BExpr) (p : Fraction) (d : ℤ) (at : Pos) (K : Env → Type 0) → IfBounded b (IsWithinFraction p) → d ≢ pos 0 →
    ((E : Env) → K E → bvalue b l E ≡ Is (s.Real p)) → ((E : Env) → K E → bvalue b y E ≡ Is (s.Int d)) →
    Computes b ty.Perm (record { expr = t.Bin op.Divide l (real y); base = base.Real }) K (m.fraction_by b sc p d at)
quotient_computes b sc l y p d at K within some h i = rw (apart_from_zero d some)
    (fitting_computes b ty.Perm (record { expr = t.Bin op.Divide l (real y); base = base.Real }) K (fits_quotient_by p d) at (Perm (quotient_by p d)) refl refl
    (λ E k. plain_value b op.Divide l (real y) _ _ E refl (h E k) (real_value b y d E (i E k)) ∙ real_quotient b p d within some))

whole_within : (b : Bound) (n : ℤ) → IfBounded b (IsWithin n) → IfBounded b (IsWithinFraction (whole n))
whole_within Unbounded n h = tt
whole_within Bounded n h = (proper_whole Bounded n h).within

-- `/`: an Int that is divided is a real
over_computes : (b : Bound) (sc : Scene) (x y : Operand) (v : Value) (d : ℤ) (at : Pos) (u : Ty) → value_type o.Divide (type_of v) ty.Int ≡ Some u → x.base ≡ base_for (type_of v) →
    IsProperValue b v → d ≢ pos 0 → Computes b u (quotient_operand o.Divide x y.expr) (HaveBoth b x y v (Int d)) (m.quotient_of b sc v (Int d) at)
over_computes b sc x y (Int n) d at u typed left proper some = let h : ty.Perm ≡ u = cc in rw (← h, left)
    (quotient_computes b sc (real x.expr) y.expr (whole n) d at _ (whole_within b n proper) some (λ E k. real_value b x.expr n E k.left.value) (λ E k. k.right.value))
over_computes b sc x y (Perm p) d at u typed left proper some = let h : ty.Perm ≡ u = cc in rw (← h, left)
    (quotient_computes b sc x.expr y.expr p d at _ proper.within some (λ E k. k.left.value) (λ E k. k.right.value))
over_computes b sc x y v d at u typed left proper some = absurd cc

euclidean_computes : (b : Bound) (sc : Scene) (f : ℤ → ℤ → ℤ) (g : BOp) (x y : Operand) (v : Value) (d : ℤ) (at : Pos) (u : Ty) → r.is_lazy g ≡ false →
    ((p q : BScalar) → r.plain b g p q ≡ r.euclidean f p q) → value_type o.IntDiv (type_of v) ty.Int ≡ Some u → d ≢ pos 0 →
    Computes b u (record { expr = t.Bin g x.expr y.expr; base = base.Int }) (HaveBoth b x y v (Int d)) (m.euclidean sc f v (Int d) at)
euclidean_computes b sc f g x y (Int n) d at u lazy same typed some = let h : ty.Int ≡ u = cc in rw (apart_from_zero d some)
    (value h (ap base_for h) (λ E k. plain_value b g x.expr y.expr _ _ E lazy k.left.value k.right.value ∙ same _ _
    ∙ ap (λ (z : Bool). Is (s.Int (if z then pos 0 else f n d))) (apart_from_zero d some)))
euclidean_computes b sc f g x y v d at u lazy same typed some = absurd cc

-- a divisor other than 0. The dividend has to be proper, since `/` of Boogie tests its numerator too.
pub division_computes : (b : Bound) (sc : Scene) (o : Op) (x y : Operand) (v : Value) (d : ℤ) (at : Pos) (u : Ty) → class_of o ≡ Division → value_type o (type_of v) ty.Int ≡ Some u →
    x.base ≡ base_for (type_of v) → y.base ≡ base_for ty.Int → IsProperValue b v → d ≢ pos 0 →
    Computes b u (quotient_operand o x y.expr) (HaveBoth b x y v (Int d)) (m.divided b sc o v (Int d) at)
division_computes b sc o.Divide x y v d at u division typed left right proper some = over_computes b sc x y v d at u typed left proper some
division_computes b sc o.IntDiv x y v d at u division typed left right proper some = euclidean_computes b sc int_div_euclid op.IntDiv x y v d at u refl (λ p q. refl) typed some
division_computes b sc o.IntMod x y v d at u division typed left right proper some = euclidean_computes b sc int_rem_euclid op.IntMod x y v d at u refl (λ p q. refl) typed some
division_computes b sc o x y v d at u division typed left right proper some = absurd cc

pub negative_computes : (b : Bound) (x : Operand) (v : Value) (u : Ty) → is_number (type_of v) ≡ true → type_of v ≡ u → x.base ≡ base_for u →
    Computes b u (record { expr = t.Neg x.expr; base = x.base }) (Has b x.expr v) (m.negative v)
negative_computes b x (Int n) u number typed base = value typed base (λ E k. ap (λ (z : End BScalar). then_with z r.negative) k.value)
negative_computes b x (Perm q) u number typed base = value typed base (λ E k. ap (λ (z : End BScalar). then_with z r.negative) k.value)
negative_computes b x v u number typed base = absurd cc

pub negation_computes : (b : Bound) (x : Operand) (v : Value) → type_of v ≡ ty.Bool → Computes b ty.Bool (record { expr = t.Not x.expr; base = base.Bool }) (Has b x.expr v) (m.negation v)
negation_computes b x (Truth p) typed = value refl refl (λ E k. ap (λ (z : End BScalar). then_with z r.negation) k.value)
negation_computes b x v typed = absurd cc
