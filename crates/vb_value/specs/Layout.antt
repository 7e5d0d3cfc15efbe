-- What a state has places for.
use Rattle.std.specs.Prelude.{List}
use Rattle.vb_value.specs.declared.values.Ty.{Ty}

-- the type of each field, and the types of the arguments of each predicate
pub record Layout : Type 0 where
  pub fields : List Ty
  pub keys : List (List Ty)
