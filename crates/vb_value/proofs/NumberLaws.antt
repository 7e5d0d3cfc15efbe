-- Fractions that the code makes of two numbers.
use Rattle.std.proofs.Common.{◌≡◌, sym, ◌∙◌, arith, ℤ, pos, neg_ℤ, ◌-ℤ◌, Option, Some, None, if◌then◌else◌, to_z, of_z}
use Rattle.std.specs.Int.{w128}
use Rattle.std.proofs.lemmas.Int.{ints}
use Rattle.lemmas.proofs.Numbers.{size_of_negative}
use Rattle.lemmas.proofs.Options.{chosen}
use Rattle.vb_value.specs.Bound.{IsWithin}
use Rattle.vb_value.specs.Fraction.{Fraction, IsReduced, fits_ratio, ratio}
use Rattle.vb_value.proofs.BoundLaws.{read_back}
use Rattle.vb_value.proofs.FractionLaws.{reduced_self}

-- what is made of the numbers of a fraction in lowest terms is that fraction
pub made_is : (q f : Fraction) (o : Option Fraction) (n d : ℤ) → IsReduced q → n ≡ q.num → d ≡ pos q.den → o ≡ (if fits_ratio n d then Some (ratio n d) else None) → o ≡ Some f → f ≡ q
made_is q f o n d lowest num den is some =
    chosen (fits_ratio n d) (ratio n d) f (sym some ∙ is) ∙ rw (num, den) (reduced_self q lowest)

-- the machine's negative of a number within the bound
pub negative_is : (z : ℤ) → IsWithin z → to_z w128 (of_z w128 (pos 0 -ℤ to_z w128 (of_z w128 z))) ≡ neg_ℤ z
negative_is z h =
    let turned : pos 0 -ℤ z ≡ neg_ℤ z = omega (arith, ints) in
    rw (read_back z h, turned) (read_back (neg_ℤ z) (rw (size_of_negative z) h))
