-- Sums of products, and how they stand to 0. All numbers are whole: those of names are multiplied by a common denominator, and so is
-- what stands alone.
use Rattle.std.specs.Prelude.{◌≡◌, ◌≢◌, ℕ, ℤ, pos, ◌+ℤ◌, ◌*ℤ◌, ◌≤ℤ◌, ◌<ℤ◌, List, [], ◌∷◌}
use Rattle.cert_linear.specs.declared.rows.Product.{Product}
use Rattle.cert_linear.specs.declared.rows.LinearRow.{LinearRow}
use Rattle.cert_linear.specs.declared.rows.SumSign.{SumSign}
use Rattle.cert_linear.specs.declared.rows.SumSign.TheVariants as sign

-- a number stands to 0 like this
abbrev pub Stands : SumSign → ℤ → Type 0
Stands sign.Equal z = z ≡ pos 0
Stands sign.AtMost z = z ≤ℤ pos 0
Stands sign.Below z = z <ℤ pos 0
Stands sign.Other z = z ≢ pos 0

-- a product, by the numbers of names
abbrev pub product_at : (ℕ → ℤ) → Product → ℤ
product_at x p = p.factor *ℤ x p.name

-- the sum of products
abbrev pub total : (ℕ → ℤ) → List Product → ℤ
total x [] = pos 0
total x (p ∷ ps) = product_at x p +ℤ total x ps

-- the sum of a row, where d is the common denominator
abbrev pub row_at : (ℕ → ℤ) → ℤ → LinearRow → ℤ
row_at x d r = product_at x r.first +ℤ (product_at x r.second +ℤ (product_at x r.third +ℤ r.number *ℤ d))

-- the row's sum stands to 0 as the row says
abbrev pub RowHolds : (ℕ → ℤ) → ℤ → LinearRow → Type 0
RowHolds x d r = Stands r.sign (row_at x d r)

-- the same of products, a number and a sign
abbrev pub SumHolds : (ℕ → ℤ) → ℤ → List Product → ℤ → SumSign → Type 0
SumHolds x d ps n s = Stands s (total x ps +ℤ n *ℤ d)
