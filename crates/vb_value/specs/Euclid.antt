-- Division of whole numbers with a remainder that is not negative (Euclid; R. T. Boute, "The Euclidean definition of the
-- functions div and mod", 1992).
use Rattle.std.specs.Prelude.{◌≡◌, ℤ, pos, ◌+ℤ◌, ◌*ℤ◌, ◌≤ℤ◌, ◌<ℤ◌, unsigned_abs}

-- q is the quotient of a by d, and r the remainder
pub record IsEuclidean (a d q r : ℤ) : Type 0 where
  pub whole : a ≡ d *ℤ q +ℤ r
  pub not_negative : pos 0 ≤ℤ r
  pub small : r <ℤ pos (unsigned_abs d)
