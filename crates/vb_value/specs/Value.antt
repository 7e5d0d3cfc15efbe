-- What is said of values.
use Rattle.std.specs.Prelude.{⊤, pos, Bool, true, false, ◌&&◌, ◌==◌}
use Rattle.std.specs.Bool.{beq}
use Rattle.std.specs.Ordering.{int_eq}
use Rattle.vb_value.specs.Fraction.{Fraction, IsReduced, is_reduced, IsWithinFraction, IsProperFraction, none}
use Rattle.vb_value.specs.Bound.{Bound, IfBounded, IsWithin}
use Rattle.vb_value.specs.declared.values.Ty.{Ty}
use Rattle.vb_value.specs.declared.values.Ty.TheVariants as ty
use Rattle.vb_value.specs.declared.values.Value.{Value}
use Rattle.vb_value.specs.declared.values.Value.TheVariants.{Int, Bool as Truth, Ref, Perm}

-- fractions in lowest terms are compared by their two numbers
abbrev pub fraction_eq : Fraction → Fraction → Bool
fraction_eq p q = int_eq p.num q.num && (p.den == q.den)

abbrev pub value_eq : Value → Value → Bool
value_eq (Int a) (Int b) = int_eq a b
value_eq (Truth a) (Truth b) = beq a b
value_eq (Ref a) (Ref b) = a == b
value_eq (Perm a) (Perm b) = fraction_eq a b
value_eq _ _ = false

-- its numbers are within the bound
abbrev pub IsWithinValue : Value → Type 0
IsWithinValue (Int a) = IsWithin a
IsWithinValue (Truth a) = ⊤
IsWithinValue (Ref a) = ⊤
IsWithinValue (Perm a) = IsWithinFraction a

-- a fraction is in lowest terms, as it is in each value of the program
abbrev pub IsReducedValue : Value → Type 0
IsReducedValue (Int a) = ⊤
IsReducedValue (Truth a) = ⊤
IsReducedValue (Ref a) = ⊤
IsReducedValue (Perm a) = IsReduced a

-- the same as a test
abbrev pub is_reduced_value : Value → Bool
is_reduced_value (Int a) = true
is_reduced_value (Truth a) = true
is_reduced_value (Ref a) = true
is_reduced_value (Perm a) = is_reduced a

-- its fractions are in lowest terms, and its numbers are within the bound where there is one
abbrev pub IsProperValue : Bound → Value → Type 0
IsProperValue b (Int a) = IfBounded b (IsWithin a)
IsProperValue b (Truth a) = ⊤
IsProperValue b (Ref a) = ⊤
IsProperValue b (Perm a) = IsProperFraction b a

abbrev pub same_type : Ty → Ty → Bool
same_type ty.Int ty.Int = true
same_type ty.Bool ty.Bool = true
same_type ty.Ref ty.Ref = true
same_type ty.Perm ty.Perm = true
same_type _ _ = false

abbrev pub type_of : Value → Ty
type_of (Int a) = ty.Int
type_of (Truth a) = ty.Bool
type_of (Ref a) = ty.Ref
type_of (Perm a) = ty.Perm

-- the value of a place or variable that was never given one: 0, false, null or none
abbrev pub default_of : Ty → Value
default_of ty.Int = Int (pos 0)
default_of ty.Bool = Truth false
default_of ty.Ref = Ref 0
default_of ty.Perm = Perm none
