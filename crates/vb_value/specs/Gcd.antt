-- The greatest common divisor, by Euclid's algorithm (Elements, book VII, proposition 2).
use Rattle.std.specs.Prelude.{ℕ, zero, suc, ◌+◌, ◌%◌}

-- at most so many divisions with remainder
abbrev pub gcd_within : ℕ → ℕ → ℕ → ℕ
gcd_within zero a b = a
gcd_within (suc n) a zero = a
gcd_within (suc n) a (suc b) = gcd_within n (suc b) (a % suc b)

-- The remainder falls each time, so b divisions and one more are enough. That this divides both numbers, and that
-- each common divisor divides it, is `IsGcd-gcd` of `proofs/GcdLaws.antt`
unfoldable pub gcd : ℕ → ℕ → ℕ
gcd a b = gcd_within (b + 1) a b
