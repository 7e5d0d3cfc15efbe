-- The order of keys.
use Rattle.std.specs.Prelude.{⊤, List}
use Rattle.std.specs.List.{All}
use Rattle.vb_value.specs.Bound.{Bound, IfBounded, IsWithin}
use Rattle.std.specs.Ordering.{int_cmp, nat_cmp, bool_cmp}
use Rattle.std.specs.Cmp.Lexicographic.{slice_cmp}
use Rattle.std.specs.declared.cmp.Ordering.{Ordering}
use Rattle.std.specs.declared.cmp.Ordering.TheVariants.{Less, Greater}
use Rattle.vb_value.specs.declared.keys.KeyPart.{KeyPart}
use Rattle.vb_value.specs.declared.keys.KeyPart.TheVariants.{Int, Bool, Ref}

-- Ints and Refs by number, false before true, and different variants in the order of the variants
abbrev pub part_cmp : KeyPart → KeyPart → Ordering
part_cmp (Int a) (Int b) = int_cmp a b
part_cmp (Int a) (Bool b) = Less
part_cmp (Int a) (Ref b) = Less
part_cmp (Bool a) (Int b) = Greater
part_cmp (Bool a) (Bool b) = bool_cmp a b
part_cmp (Bool a) (Ref b) = Less
part_cmp (Ref a) (Int b) = Greater
part_cmp (Ref a) (Bool b) = Greater
part_cmp (Ref a) (Ref b) = nat_cmp a b

-- part by part from the first on, a list before its extensions
abbrev pub key_cmp : List KeyPart → List KeyPart → Ordering
key_cmp = slice_cmp part_cmp

-- a number is within the bound
abbrev pub IsWithinPart : KeyPart → Type 0
IsWithinPart (Int a) = IsWithin a
IsWithinPart (Bool a) = ⊤
IsWithinPart (Ref a) = ⊤

abbrev pub IsWithinKey : List KeyPart → Type 0
IsWithinKey = All IsWithinPart

-- the same by a bound
abbrev pub IsProperPart : Bound → KeyPart → Type 0
IsProperPart b (Int a) = IfBounded b (IsWithin a)
IsProperPart b (Bool a) = ⊤
IsProperPart b (Ref a) = ⊤

abbrev pub IsProperKey : Bound → List KeyPart → Type 0
IsProperKey b = All (IsProperPart b)
