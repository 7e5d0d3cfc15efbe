-- Values as plain data, and what a run takes from outside. The maps of Boogie are total (Leino, This is Boogie 2); each
-- here has a default at all but finitely many keys.
use Rattle.std.specs.Prelude.{ℕ, ℤ, Bool as Truth, false, List, ◌==◌}
use Rattle.std.specs.Bool.{beq}
use Rattle.std.specs.Ordering.{int_eq}
use Rattle.sparse.specs.Map.{Map}
use Rattle.vb_value.specs.Fraction.{Fraction}
use Rattle.vb_value.specs.Value.{fraction_eq}
use Rattle.vb_value.specs.Content.{Content, same_content}
use Rattle.vb_value.specs.declared.keys.KeyPart.{KeyPart}

abbrev pub Key : Type 0
Key = List KeyPart

pub data BScalar : Type 0 where
  Int : ℤ → BScalar
  Bool : Truth → BScalar
  Ref : ℕ → BScalar
  Real : Fraction → BScalar
  Snap : Content → BScalar

-- equality of values, as a test
abbrev pub same_scalar : BScalar → BScalar → Truth
same_scalar (Int a) (Int b) = int_eq a b
same_scalar (Bool a) (Bool b) = beq a b
same_scalar (Ref a) (Ref b) = a == b
same_scalar (Real a) (Real b) = fraction_eq a b
same_scalar (Snap a) (Snap b) = same_content a b
same_scalar _ _ = false

pub data BValue : Type 0 where
  One : BScalar → BValue
  Many : Map Key BScalar → BValue

pub record Entry : Type 0 where
  pub key : Key
  pub value : BScalar

pub data BChoice : Type 0 where
  -- the branch of an `if (*)`
  Pick : Truth → BChoice
  -- the value of a variable that is no map
  Value : BScalar → BChoice
  -- where a map has another value than the default of its type
  Entries : List Entry → BChoice

pub record BSetting : Type 0 where
  pub var : ℕ
  pub value : BValue

pub record BRun : Type 0 where
  pub settings : List BSetting
  pub choices : List BChoice
