-- The types of variables, fields and predicates, read off the locals that a place names.
use Rattle.std.specs.Prelude.{◌≡◌, ◌<◌, ℕ, List, map, length, slice_index_or, Contains}
use Rattle.vb_value.specs.declared.values.Ty.{Ty}
use Rattle.vb_value.specs.declared.values.Ty.TheVariants as ty
use Rattle.viper_core.specs.Typing.{Context}
use Rattle.boogie_tree.specs.Program.{BType, Local}
use Rattle.boogie_tree.specs.Values.{plain_type}
use Rattle.boogie_tree.specs.declared.exprs.BBase.{BBase}
use Rattle.boogie_tree.specs.declared.exprs.BBase.TheVariants as base
use Rattle.enc_expr.specs.Place.{Place}
use Rattle.enc_expr.specs.Kinds.{Kinds}
use Rattle.enc_expr.specs.Emits.{Emit}

abbrev pub local_types : List Local → List BType
local_types ls = map (λ (l : Local). l.ty) ls

-- the types of the locals that are declared so far
abbrev pub types_in : Emit → List BType
types_in x = local_types x.locals

-- the type of Viper that is this one of Boogie; a snapshot is none
abbrev pub ty_for : BBase → Ty
ty_for base.Int = ty.Int
ty_for base.Bool = ty.Bool
ty_for base.Ref = ty.Ref
ty_for base.Real = ty.Perm
ty_for base.Snap = ty.Int

abbrev pub local_type : List BType → ℕ → BType
local_type ts i = slice_index_or ts i (plain_type base.Int)

-- of a variable, or of the values of a map
abbrev pub value_type : List BType → ℕ → Ty
value_type ts i = ty_for (local_type ts i).base

-- of the arguments of an instance. Where a predicate has no parameters this is one Int, as the index 0 is.
abbrev pub key_types : List BType → ℕ → List Ty
key_types ts i = map ty_for (local_type ts i).keys

-- what the locals of variables, heaps and contents tell
abbrev pub kinds_at : Place → List BType → Kinds
kinds_at p ts = record { vars = map (value_type ts) p.vars; layout = record { fields = map (value_type ts) p.now.heap; keys = map (key_types ts) p.now.content } }

-- the place has a number for each variable that can be named, and for each field and each predicate
pub record HasNumbers (c : Context) (p : Place) : Type 0 where
  pub vars : (x : ℕ) → Contains c.visible x → x < length p.vars
  pub heap : length p.now.heap ≡ length c.program.layout.fields
  pub content : length p.now.content ≡ length c.program.layout.keys
