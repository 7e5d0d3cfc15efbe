-- Worked rows of the definitions, by computation.
use Rattle.std.proofs.Common.{◌≡◌, ℕ, ◌-◌, ◌^◌, ℤ, pos, negsuc, false, refl}
use Rattle.std.specs.Int.{int_div_euclid, int_rem_euclid}
use Rattle.std.specs.declared.cmp.Ordering.TheVariants.{Less}
use Rattle.vb_value.specs.Gcd.{gcd}
use Rattle.vb_value.specs.Fraction.{Fraction, reduced, ratio, whole, sum, difference, product, quotient, quotient_by, order, fits_sum, fits_product, fits_order}
use Rattle.vb_value.specs.Content.{Unit, Pair, nodes}

abbrev over : ℤ → ℕ → Fraction
over n d = record { num = n; den = d }

abbrev most : ℕ
most = 2 ^ 127 - 1

gcd_row : gcd 84 36 ≡ 12
unfolding gcd
gcd_row = refl

ratio_row : ratio (pos 6) (negsuc 3) ≡ over (negsuc 2) 2
unfolding reduced gcd
ratio_row = refl

sum_row : sum (over (pos 1) 2) (over (pos 1) 3) ≡ over (pos 5) 6
unfolding reduced gcd
sum_row = refl

difference_row : difference (over (pos 1) 3) (over (pos 1) 2) ≡ over (negsuc 0) 6
unfolding reduced gcd
difference_row = refl

product_row : product (over (negsuc 1) 3) (over (pos 3) 4) ≡ over (negsuc 0) 2
unfolding reduced gcd
product_row = refl

quotient_row : quotient (over (pos 1) 2) (over (negsuc 2) 4) ≡ over (negsuc 1) 3
unfolding reduced gcd
quotient_row = refl

quotient_by_row : quotient_by (over (pos 1) 2) (negsuc 2) ≡ over (negsuc 0) 6
unfolding reduced gcd
quotient_by_row = refl

order_row : order (over (pos 4) 3) (over (pos 3) 2) ≡ Less
order_row = refl

-- MAX and 1/2: the product of MAX and 2 does not fit
fits_sum_row : fits_sum (whole (pos most)) (over (pos 1) 2) ≡ false
fits_sum_row = refl

fits_order_row : fits_order (whole (pos most)) (over (pos 1) 2) ≡ false
fits_order_row = refl

-- 1 would fit, but 2 * MAX does not
fits_product_row : fits_product (over (pos most) 2) (over (pos 2) most) ≡ false
fits_product_row = refl

div_row : int_div_euclid (negsuc 6) (pos 2) ≡ negsuc 3
div_row = refl

mod_row : int_rem_euclid (negsuc 6) (negsuc 1) ≡ pos 1
mod_row = refl

nodes_row : nodes (Pair Unit (Pair Unit Unit)) ≡ 5
nodes_row = refl
