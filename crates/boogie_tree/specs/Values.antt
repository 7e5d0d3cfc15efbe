-- Types of values (Leino, This is Boogie 2, sections 2 and 3): each base type has a default, and a map is total, with the
-- default of its values' type at all but finitely many keys. A real is a rational number.
use Rattle.std.specs.Prelude.{⊤, ◌≡◌, pos, Bool as Truth, true, false, ◌&&◌, List, [], ◌∷◌, All}
use Rattle.std.specs.List.{AllZip, list_all}
use Rattle.sparse.specs.Map as map
use Rattle.sparse.specs.Map.{Map}
use Rattle.vb_value.specs.Content as content
use Rattle.vb_value.specs.Content.{IsReducedContent}
use Rattle.vb_value.specs.Fraction.{IsReduced, none}
use Rattle.vb_value.specs.Key.{key_cmp}
use Rattle.vb_value.specs.declared.keys.KeyPart.{KeyPart}
use Rattle.vb_value.specs.declared.keys.KeyPart.TheVariants as part
use Rattle.boogie_tree.specs.Program.{BType}
use Rattle.boogie_tree.specs.Value.{Key, BScalar, Int, Bool, Ref, Real, Snap, same_scalar, BValue, One, Many, Entry, BChoice, Pick, Value, Entries}
use Rattle.boogie_tree.specs.declared.exprs.BBase.{BBase}
use Rattle.boogie_tree.specs.declared.exprs.BBase.TheVariants as base

-- ---- base types

abbrev pub same_base : BBase → BBase → Truth
same_base base.Int base.Int = true
same_base base.Bool base.Bool = true
same_base base.Ref base.Ref = true
same_base base.Real base.Real = true
same_base base.Snap base.Snap = true
same_base _ _ = false

abbrev pub same_bases : List BBase → List BBase → Truth
same_bases [] [] = true
same_bases (u ∷ us) (w ∷ ws) = same_base u w && same_bases us ws
same_bases _ _ = false

abbrev pub same_type : BType → BType → Truth
same_type u w = same_bases u.keys w.keys && same_base u.base w.base

-- the types that the indices of a map and the names bound by a `forall` have
abbrev pub is_key : BBase → Truth
is_key base.Int = true
is_key base.Bool = true
is_key base.Ref = true
is_key base.Real = false
is_key base.Snap = false

abbrev pub AreKeys : List BBase → Type 0
AreKeys us = All (λ u. is_key u ≡ true) us

-- the same as a test
abbrev pub are_keys : List BBase → Truth
are_keys us = list_all is_key us

-- the type of a variable that is no map
abbrev pub plain_type : BBase → BType
plain_type u = record { keys = []; base = u }

abbrev pub map_type : BBase → List BBase → BBase → BType
map_type u us w = record { keys = u ∷ us; base = w }

-- ---- values of base types

abbrev pub base_of_scalar : BScalar → BBase
base_of_scalar (Int a) = base.Int
base_of_scalar (Bool a) = base.Bool
base_of_scalar (Ref a) = base.Ref
base_of_scalar (Real a) = base.Real
base_of_scalar (Snap a) = base.Snap

-- a fraction is in lowest terms, as are those at the leaves of a content
abbrev pub IsReducedScalar : BScalar → Type 0
IsReducedScalar (Int a) = ⊤
IsReducedScalar (Bool a) = ⊤
IsReducedScalar (Ref a) = ⊤
IsReducedScalar (Real a) = IsReduced a
IsReducedScalar (Snap a) = IsReducedContent a

pub record FitsScalar (u : BBase) (v : BScalar) : Type 0 where
  pub typed : base_of_scalar v ≡ u
  pub reduced : IsReducedScalar v

-- 0, false, null, 0 and the content of nothing
abbrev pub default_of : BBase → BScalar
default_of base.Int = Int (pos 0)
default_of base.Bool = Bool false
default_of base.Ref = Ref 0
default_of base.Real = Real none
default_of base.Snap = Snap content.Unit

-- whether it is the default of its own type
abbrev pub is_default : BScalar → Truth
is_default v = same_scalar v (default_of (base_of_scalar v))

-- ---- keys

abbrev pub base_of_part : KeyPart → BBase
base_of_part (part.Int a) = base.Int
base_of_part (part.Bool a) = base.Bool
base_of_part (part.Ref a) = base.Ref

abbrev pub FitsPart : BBase → KeyPart → Type 0
FitsPart u a = base_of_part a ≡ u

-- as many parts, each of its type
abbrev pub FitsKey : List BBase → Key → Type 0
FitsKey us k = AllZip FitsPart us k

-- the same as a test
abbrev pub fits_key : List BBase → Key → Truth
fits_key [] [] = true
fits_key (u ∷ us) (a ∷ k) = same_base (base_of_part a) u && fits_key us k
fits_key _ _ = false

-- ---- maps

-- keys of the types us and values of the type u: the keys of the entries ascend, and no entry has the default
pub record IsMapOf (us : List BBase) (u : BBase) (m : Map Key BScalar) : Type 0 where
  pub default : m.default ≡ default_of u
  pub reduced : map.IsReduced key_cmp same_scalar m
  pub keys : All (FitsKey us) (map.keys m)
  pub values : All (FitsScalar u) (map.values m)

-- ---- values of variables

pub data IsOfType : BValue → BType → Type 0 where
  one : {v : BScalar} {u : BBase} → FitsScalar u v → IsOfType (One v) (plain_type u)
  many : {m : Map Key BScalar} {u : BBase} {us : List BBase} {w : BBase} → IsMapOf (u ∷ us) w m → IsOfType (Many m) (map_type u us w)

-- a value of its type for each variable
abbrev pub IsEnvironment : List BType → List BValue → Type 0
IsEnvironment ls env = AllZip (λ u v. IsOfType v u) ls env

-- ---- choices

abbrev pub IsReducedEntry : Entry → Type 0
IsReducedEntry e = IsReducedScalar e.value

-- its fractions are in lowest terms
abbrev pub IsReducedChoice : BChoice → Type 0
IsReducedChoice (Pick p) = ⊤
IsReducedChoice (Value v) = IsReducedScalar v
IsReducedChoice (Entries es) = All IsReducedEntry es
