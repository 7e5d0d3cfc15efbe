-- The types of definitions that are well-typed, read off their first parts.
use Rattle.std.specs.Prelude.{List, Option, Some, slice_get}
use Rattle.boogie_tree.specs.Program.{BType}
use Rattle.boogie_tree.specs.Values.{plain_type}
use Rattle.boogie_tree.specs.declared.exprs.BBase.{BBase}
use Rattle.boogie_tree.specs.declared.exprs.BBase.TheVariants as base
use Rattle.boogie_tree.specs.declared.exprs.BOp.{BOp}
use Rattle.boogie_tree.specs.declared.exprs.BOp.TheVariants as op
use Rattle.cert_check.specs.declared.kinds.DefinitionType.{DefinitionType}
use Rattle.cert_check.specs.declared.kinds.DefinitionType.TheVariants as kind

-- the type of an operator's value, by that of its operands
abbrev pub answered : BOp → BBase → BBase
answered op.Add u = u
answered op.Sub u = u
answered op.Mul u = u
answered op.Divide u = u
answered op.IntDiv u = u
answered op.IntMod u = u
answered _ u = base.Bool

-- the type that is meant
abbrev pub kind_type : List BType → DefinitionType → Option BType
kind_type ls (kind.Like i) = slice_get ls i
kind_type ls (kind.Plain u) = Some (plain_type u)
