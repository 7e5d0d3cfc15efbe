-- The rows of literals and terms: what is known of the numbers of names.
use Rattle.std.specs.Prelude.{ℕ, ℤ, pos, negsuc, Bool as Truth, true, false}
use Rattle.boogie_tree.specs.declared.exprs.BBase.{BBase}
use Rattle.boogie_tree.specs.declared.exprs.BBase.TheVariants as base
use Rattle.cert_terms.specs.declared.terms.ClauseLiteral.{ClauseLiteral}
use Rattle.cert_linear.specs.declared.rows.Product.{Product}
use Rattle.cert_linear.specs.declared.rows.LinearRow.{LinearRow}
use Rattle.cert_linear.specs.declared.rows.SumSign.{SumSign}
use Rattle.cert_linear.specs.declared.rows.SumSign.TheVariants as sign

-- the types of numbers
abbrev pub number_type : Truth → BBase
number_type true = base.Int
number_type false = base.Real

-- a name as it is
abbrev pub named : ℕ → ClauseLiteral
named n = record { name = n; negated = false }

abbrev pub times : ℤ → ℕ → Product
times k n = record { name = n; factor = k }

-- a row of two names, and one of three whose sum is 0
abbrev pub two : Product → Product → ℤ → SumSign → LinearRow
two p q n s = record { first = p; second = q; third = times (pos 0) 0; number = n; sign = s }

abbrev pub three : Product → Product → Product → LinearRow
three p q r = record { first = p; second = q; third = r; number = pos 0; sign = sign.Equal }

-- a less b, and a number
abbrev pub less : ℕ → ℕ → ℤ → SumSign → LinearRow
less a b n s = two (times (pos 1) a) (times (negsuc 0) b) n s

-- what is known where `a == b` is false, or its negation
abbrev pub equation_row : ℕ → ℕ → Truth → LinearRow
equation_row a b true = less a b (pos 0) sign.Equal
equation_row a b false = less a b (pos 0) sign.Other

-- what is known where `a <= b` is false, or its negation. An int that is above another is above it by 1 at least.
abbrev pub order_row : ℕ → ℕ → Truth → Truth → LinearRow
order_row a b is_int true = less a b (pos 0) sign.AtMost
order_row a b true false = less b a (pos 1) sign.AtMost
order_row a b false false = less b a (pos 0) sign.Below
