-- The values of operators (Viper tutorial, "Expressions and assertions"; permission amounts are the rational numbers).
-- A value of another type than the operator takes blocks, which it does in no typed program.
use Rattle.std.specs.Prelude.{ℕ, ℤ, pos, ◌+ℤ◌, ◌-ℤ◌, ◌*ℤ◌, neg_ℤ, Bool as Truth, true, false, not, Option, Some, None}
use Rattle.std.specs.Int.{int_div_euclid, int_rem_euclid}
use Rattle.std.specs.Ordering.{int_cmp, int_eq, is_lt, is_le, is_gt, is_ge}
use Rattle.std.specs.Bool.{beq}
use Rattle.std.specs.declared.cmp.Ordering.{Ordering}
use Rattle.vb_base.specs.declared.labels.Kind.TheVariants as kind
use Rattle.vb_base.specs.declared.places.Pos.{Pos}
use Rattle.vb_value.specs.Bound.{Bound, is_within}
use Rattle.vb_value.specs.Fraction.{Fraction, whole, sum, difference, product, quotient_by, order, fits_sum, fits_difference, fits_product, fits_quotient_by, fits_order}
use Rattle.vb_value.specs.Value.{value_eq}
use Rattle.vb_value.specs.declared.values.Value.{Value}
use Rattle.vb_value.specs.declared.values.Value.TheVariants.{Int, Bool, Ref, Perm}
use Rattle.viper_core.specs.declared.exprs.Op.{Op}
use Rattle.viper_core.specs.declared.exprs.Op.TheVariants as op
use Rattle.viper_state.specs.Run.{Scene}
use Rattle.viper_meaning.specs.Ends.{Evaluated, is, fails, blocks, then_with, unless, fitting}

-- what a value of this type is

abbrev pub truth_of : Value → Evaluated Truth
truth_of (Bool b) = is b
truth_of _ = blocks

abbrev pub perm_of : Value → Evaluated Fraction
perm_of (Perm q) = is q
perm_of _ = blocks

abbrev pub ref_of : Value → Evaluated ℕ
ref_of (Ref r) = is r
ref_of _ = blocks

-- sums and differences of two Ints or two Perms

abbrev pub sum_of : Bound → Value → Value → Pos → Evaluated Value
sum_of b (Int x) (Int y) at = fitting b (is_within (x +ℤ y)) at (Int (x +ℤ y))
sum_of b (Perm p) (Perm q) at = fitting b (fits_sum p q) at (Perm (sum p q))
sum_of b _ _ at = blocks

abbrev pub difference_of : Bound → Value → Value → Pos → Evaluated Value
difference_of b (Int x) (Int y) at = fitting b (is_within (x -ℤ y)) at (Int (x -ℤ y))
difference_of b (Perm p) (Perm q) at = fitting b (fits_difference p q) at (Perm (difference p q))
difference_of b _ _ at = blocks

-- a product: an Int of two Ints, and else a Perm, where an Int n counts as n/1
abbrev pub fraction_product : Bound → Fraction → Fraction → Pos → Evaluated Value
fraction_product b p q at = fitting b (fits_product p q) at (Perm (product p q))

abbrev pub product_of : Bound → Value → Value → Pos → Evaluated Value
product_of b (Int x) (Int y) at = fitting b (is_within (x *ℤ y)) at (Int (x *ℤ y))
product_of b (Int x) (Perm q) at = fraction_product b (whole x) q at
product_of b (Perm p) (Int y) at = fraction_product b p (whole y) at
product_of b (Perm p) (Perm q) at = fraction_product b p q at
product_of b _ _ at = blocks

-- the order of two Ints or two Perms
abbrev pub compared : Bound → (Ordering → Truth) → Value → Value → Pos → Evaluated Value
compared b test (Int x) (Int y) at = is (Bool (test (int_cmp x y)))
compared b test (Perm p) (Perm q) at = fitting b (fits_order p q) at (Bool (test (order p q)))
compared b test _ _ at = blocks

abbrev pub same_truth : Value → Value → Evaluated Value
same_truth (Bool a) (Bool b) = is (Bool (beq a b))
same_truth _ _ = blocks

-- `/`: an Int or a Perm by an Int, which is a Perm. A zero divisor fails.
abbrev pub fraction_by : Bound → Scene → Fraction → ℤ → Pos → Evaluated Value
fraction_by b sc p n at = unless (int_eq n (pos 0)) (fails sc at kind.Div) (fitting b (fits_quotient_by p n) at (Perm (quotient_by p n)))

abbrev pub quotient_of : Bound → Scene → Value → Value → Pos → Evaluated Value
quotient_of b sc (Int x) (Int n) at = fraction_by b sc (whole x) n at
quotient_of b sc (Perm p) (Int n) at = fraction_by b sc p n at
quotient_of b sc _ _ at = blocks

-- `\` and `%` are Euclidean: the remainder is not negative
abbrev pub euclidean : Scene → (ℤ → ℤ → ℤ) → Value → Value → Pos → Evaluated Value
euclidean sc f (Int x) (Int d) at = unless (int_eq d (pos 0)) (fails sc at kind.Div) (is (Int (f x d)))
euclidean sc f _ _ at = blocks

-- ---- the three classes of operators

-- A lazy operator looks at the right side only where the left side leaves the value open. The others look at both sides: a
-- division fails where the divisor is 0, and a plain operator never fails.
pub data Class : Type 0 where
  Lazy : Class
  Division : Class
  Plain : Class

abbrev pub class_of : Op → Class
class_of op.Implies = Lazy
class_of op.Or = Lazy
class_of op.And = Lazy
class_of op.Divide = Division
class_of op.IntDiv = Division
class_of op.IntMod = Division
class_of _ = Plain

-- the value of a plain operator
abbrev pub plain : Bound → Op → Value → Value → Pos → Evaluated Value
plain b op.Iff v w at = same_truth v w
plain b op.Eq v w at = is (Bool (value_eq v w))
plain b op.Ne v w at = is (Bool (not (value_eq v w)))
plain b op.Lt v w at = compared b is_lt v w at
plain b op.Le v w at = compared b is_le v w at
plain b op.Gt v w at = compared b is_gt v w at
plain b op.Ge v w at = compared b is_ge v w at
plain b op.Add v w at = sum_of b v w at
plain b op.Sub v w at = difference_of b v w at
plain b op.Mul v w at = product_of b v w at
plain b _ v w at = blocks

-- the value of a division
abbrev pub divided : Bound → Scene → Op → Value → Value → Pos → Evaluated Value
divided b sc op.Divide v w at = quotient_of b sc v w at
divided b sc op.IntDiv v w at = euclidean sc int_div_euclid v w at
divided b sc op.IntMod v w at = euclidean sc int_rem_euclid v w at
divided b sc _ v w at = blocks

-- what the left side alone tells of the value of a lazy operator
abbrev pub settled : Op → Truth → Option Truth
settled op.And false = Some false
settled op.Or true = Some true
settled op.Implies false = Some true
settled _ b = None

-- the value that is settled, or else that of the right side
abbrev pub settled_or : Option Truth → Evaluated Value → Evaluated Value
settled_or (Some c) right = is (Bool c)
settled_or None right = right

-- the value of an operator of this class
abbrev pub in_class : Class → Bound → Scene → Op → Evaluated Value → Evaluated Value → Pos → Evaluated Value
in_class Lazy b sc o left right at = then_with left (λ v. then_with (truth_of v) (λ c. settled_or (settled o c) right))
in_class Division b sc o left right at = then_with left (λ v. then_with right (λ w. divided b sc o v w at))
in_class Plain b sc o left right at = then_with left (λ v. then_with right (λ w. plain b o v w at))

abbrev pub binary : Bound → Scene → Op → Evaluated Value → Evaluated Value → Pos → Evaluated Value
binary b sc o left right at = in_class (class_of o) b sc o left right at

-- ---- operators of one side

abbrev pub negative : Value → Evaluated Value
negative (Int n) = is (Int (neg_ℤ n))
negative (Perm q) = is (Perm (record { num = neg_ℤ q.num; den = q.den }))
negative _ = blocks

abbrev pub negation : Value → Evaluated Value
negation v = then_with (truth_of v) (λ b. is (Bool (not b)))
