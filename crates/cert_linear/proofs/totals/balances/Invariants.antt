use Rattle.std.proofs.Common.{◌≡◌, ℕ, ℤ, ◌*ℤ◌, take}
use Rattle.cert_linear.specs.Sums.{total}
use Rattle.cert_linear.proofs.totals.balances.Given as goal

-- what stands before is what is left of the last name
abbrev pub invariant-loop-product : goal.invariant-loop-product
invariant-loop-product l = (x : ℕ → ℤ) → total x (take l.product-index l.products) ≡ l.left *ℤ x l.name
