-- The values of operators (Leino, This is Boogie 2, section 4; the later `/`, `div`, `mod` and reals of Boogie's manual). A
-- quotient by 0 and a remainder by 0 are 0, and `div` and `mod` are Euclidean: the remainder is not negative. An operand of
-- another type is Wrong, which it is in no typed program.
use Rattle.std.specs.Prelude.{◌+◌, ℕ, ℤ, pos, ◌+ℤ◌, ◌-ℤ◌, ◌*ℤ◌, neg_ℤ, Bool as Truth, true, false, not, Option, Some, None, nat_lt, if◌then◌else◌}
use Rattle.std.specs.Int.{int_div_euclid, int_rem_euclid}
use Rattle.std.specs.Ordering.{int_cmp, int_eq, is_lt, is_le, is_gt, is_ge}
use Rattle.std.specs.Bool.{beq}
use Rattle.std.specs.declared.cmp.Ordering.{Ordering}
use Rattle.vb_base.specs.Limits.{max_content_nodes}
use Rattle.vb_value.specs.Bound.{Bound, is_within}
use Rattle.vb_value.specs.Content as content
use Rattle.vb_value.specs.Content.{Content, nodes}
use Rattle.vb_value.specs.Fraction.{Fraction, whole, none, is_none, sum, difference, product, quotient, order, fits_sum, fits_difference, fits_product, fits_quotient, fits_order}
use Rattle.vb_value.specs.declared.keys.KeyPart.{KeyPart}
use Rattle.vb_value.specs.declared.keys.KeyPart.TheVariants as part
use Rattle.vb_value.specs.declared.values.Value.TheVariants as leaf
use Rattle.boogie_tree.specs.Value.{BScalar, Int, Bool, Ref, Real, Snap, same_scalar}
use Rattle.boogie_tree.specs.declared.exprs.BOp.{BOp}
use Rattle.boogie_tree.specs.declared.exprs.BOp.TheVariants as op
use Rattle.boogie_meaning.specs.Ends.{End, Is, Wrong, then_with, fitting}
use Rattle.boogie_tree.specs.Values.{same_base, base_of_scalar}

-- ---- what a value of this type is

abbrev pub truth_of : BScalar → End Truth
truth_of (Bool p) = Is p
truth_of _ = Wrong

abbrev pub int_of : BScalar → End ℤ
int_of (Int n) = Is n
int_of _ = Wrong

abbrev pub ref_of : BScalar → End ℕ
ref_of (Ref r) = Is r
ref_of _ = Wrong

abbrev pub real_of : BScalar → End Fraction
real_of (Real q) = Is q
real_of _ = Wrong

abbrev pub snap_of : BScalar → End Content
snap_of (Snap c) = Is c
snap_of _ = Wrong

-- an index of a map
abbrev pub part_of : BScalar → End KeyPart
part_of (Int n) = Is (part.Int n)
part_of (Bool p) = Is (part.Bool p)
part_of (Ref r) = Is (part.Ref r)
part_of _ = Wrong

abbrev pub as_truth : End BScalar → End Truth
as_truth e = then_with e truth_of

abbrev pub as_bool : End Truth → End BScalar
as_bool e = then_with e (λ p. Is (Bool p))

-- ---- operators of one side

abbrev pub negative : BScalar → End BScalar
negative (Int n) = Is (Int (neg_ℤ n))
negative (Real q) = Is (Real (record { num = neg_ℤ q.num; den = q.den }))
negative _ = Wrong

abbrev pub negation : BScalar → End BScalar
negation v = then_with (truth_of v) (λ p. Is (Bool (not p)))

abbrev pub real_from : BScalar → End BScalar
real_from v = then_with (int_of v) (λ n. Is (Real (whole n)))

-- ---- contents

abbrev pub leaf_int : BScalar → End BScalar
leaf_int v = then_with (int_of v) (λ n. Is (Snap (content.Leaf (leaf.Int n))))

abbrev pub leaf_bool : BScalar → End BScalar
leaf_bool v = then_with (truth_of v) (λ p. Is (Snap (content.Leaf (leaf.Bool p))))

abbrev pub leaf_ref : BScalar → End BScalar
leaf_ref v = then_with (ref_of v) (λ r. Is (Snap (content.Leaf (leaf.Ref r))))

abbrev pub leaf_perm : BScalar → End BScalar
leaf_perm v = then_with (real_of v) (λ q. Is (Snap (content.Leaf (leaf.Perm q))))

-- within the bound a content has not too many nodes
abbrev pub pair_of : Bound → BScalar → BScalar → End BScalar
pair_of b v w = then_with (snap_of v) (λ c. then_with (snap_of w) (λ d. fitting b (nat_lt (nodes (content.Pair c d)) (max_content_nodes + 1)) (Snap (content.Pair c d))))

-- ---- operators that look at both sides

abbrev pub sum_of : Bound → BScalar → BScalar → End BScalar
sum_of b (Int x) (Int y) = fitting b (is_within (x +ℤ y)) (Int (x +ℤ y))
sum_of b (Real p) (Real q) = fitting b (fits_sum p q) (Real (sum p q))
sum_of b _ _ = Wrong

abbrev pub difference_of : Bound → BScalar → BScalar → End BScalar
difference_of b (Int x) (Int y) = fitting b (is_within (x -ℤ y)) (Int (x -ℤ y))
difference_of b (Real p) (Real q) = fitting b (fits_difference p q) (Real (difference p q))
difference_of b _ _ = Wrong

abbrev pub product_of : Bound → BScalar → BScalar → End BScalar
product_of b (Int x) (Int y) = fitting b (is_within (x *ℤ y)) (Int (x *ℤ y))
product_of b (Real p) (Real q) = fitting b (fits_product p q) (Real (product p q))
product_of b _ _ = Wrong

abbrev pub quotient_of : Bound → BScalar → BScalar → End BScalar
quotient_of b (Real p) (Real q) = if is_none q then Is (Real none) else fitting b (fits_quotient p q) (Real (quotient p q))
quotient_of b _ _ = Wrong

abbrev pub euclidean : (ℤ → ℤ → ℤ) → BScalar → BScalar → End BScalar
euclidean f (Int x) (Int d) = Is (Int (if int_eq d (pos 0) then pos 0 else f x d))
euclidean f _ _ = Wrong

abbrev pub compared : Bound → (Ordering → Truth) → BScalar → BScalar → End BScalar
compared b test (Int x) (Int y) = Is (Bool (test (int_cmp x y)))
compared b test (Real p) (Real q) = fitting b (fits_order p q) (Bool (test (order p q)))
compared b test _ _ = Wrong

-- two values of one type
abbrev pub equal : (Truth → Truth) → BScalar → BScalar → End BScalar
equal f v w = if same_base (base_of_scalar v) (base_of_scalar w) then Is (Bool (f (same_scalar v w))) else Wrong

abbrev pub same_truth : BScalar → BScalar → End BScalar
same_truth (Bool p) (Bool q) = Is (Bool (beq p q))
same_truth _ _ = Wrong

abbrev pub plain : Bound → BOp → BScalar → BScalar → End BScalar
plain b op.Iff v w = same_truth v w
plain b op.Eq v w = equal (λ p. p) v w
plain b op.Ne v w = equal not v w
plain b op.Lt v w = compared b is_lt v w
plain b op.Le v w = compared b is_le v w
plain b op.Gt v w = compared b is_gt v w
plain b op.Ge v w = compared b is_ge v w
plain b op.Add v w = sum_of b v w
plain b op.Sub v w = difference_of b v w
plain b op.Mul v w = product_of b v w
plain b op.Divide v w = quotient_of b v w
plain b op.IntDiv v w = euclidean int_div_euclid v w
plain b op.IntMod v w = euclidean int_rem_euclid v w
plain b _ v w = Wrong

-- ---- lazy operators look at the right side only where the left side leaves the value open

abbrev pub is_lazy : BOp → Truth
is_lazy op.Implies = true
is_lazy op.Or = true
is_lazy op.And = true
is_lazy _ = false

-- what the left side alone tells of the value
abbrev pub settled : BOp → Truth → Option Truth
settled op.And false = Some false
settled op.Or true = Some true
settled op.Implies false = Some true
settled _ p = None

-- the value that is settled, or else that of the right side
abbrev pub settled_or : Option Truth → End BScalar → End BScalar
settled_or (Some p) right = Is (Bool p)
settled_or None right = as_bool (as_truth right)

abbrev pub binary : Bound → BOp → End BScalar → End BScalar → End BScalar
binary b o left right =
    if is_lazy o then then_with (as_truth left) (λ p. settled_or (settled o p) right) else then_with left (λ v. then_with right (λ w. plain b o v w))
