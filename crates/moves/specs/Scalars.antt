-- Values and types of Viper as those of Boogie.
use Rattle.vb_value.specs.declared.values.Ty.{Ty}
use Rattle.vb_value.specs.declared.values.Ty.TheVariants as ty
use Rattle.vb_value.specs.declared.values.Value.{Value}
use Rattle.vb_value.specs.declared.values.Value.TheVariants.{Int, Bool as Truth, Ref, Perm}
use Rattle.boogie_tree.specs.Program.{BType}
use Rattle.boogie_tree.specs.Value as b
use Rattle.boogie_tree.specs.Value.{BScalar}
use Rattle.boogie_tree.specs.Values.{plain_type}
use Rattle.boogie_tree.specs.declared.exprs.BBase.{BBase}
use Rattle.boogie_tree.specs.declared.exprs.BBase.TheVariants as base

-- a value as one of Boogie, where a fraction is a real
abbrev pub scalar : Value → BScalar
scalar (Int n) = b.Int n
scalar (Truth t) = b.Bool t
scalar (Ref r) = b.Ref r
scalar (Perm q) = b.Real q

-- a permission is a real
abbrev pub base_for : Ty → BBase
base_for ty.Int = base.Int
base_for ty.Bool = base.Bool
base_for ty.Ref = base.Ref
base_for ty.Perm = base.Real

-- the type of a variable's local
abbrev pub variable_type : Ty → BType
variable_type u = plain_type (base_for u)
