-- The types that a part of a program can name.
use Rattle.std.specs.Prelude.{ℕ, List, [], slice_index_or}
use Rattle.vb_value.specs.Layout.{Layout}
use Rattle.vb_value.specs.declared.values.Ty.{Ty}
use Rattle.vb_value.specs.declared.values.Ty.TheVariants as ty
use Rattle.viper_core.specs.Typing.{Context}

-- the types of the variables that a part can name, and those of fields and predicates
pub record Kinds : Type 0 where
  pub vars : List Ty
  pub layout : Layout

abbrev pub kinds_in : Context → Kinds
kinds_in c = record { vars = c.vars; layout = c.program.layout }

abbrev pub type_at : List Ty → ℕ → Ty
type_at us x = slice_index_or us x ty.Int

abbrev pub key_at : List (List Ty) → ℕ → List Ty
key_at keys q = slice_index_or keys q []

-- the body of a predicate names its parameters
abbrev pub body_kinds : Kinds → ℕ → Kinds
body_kinds k q = record k { vars = key_at k.layout.keys q }
