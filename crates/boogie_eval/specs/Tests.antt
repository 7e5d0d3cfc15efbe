-- What comparisons look for.
use Rattle.std.specs.Prelude.{Bool as Truth}
use Rattle.std.specs.Ordering.{is_lt, is_le, is_gt, is_ge}
use Rattle.std.specs.declared.cmp.Ordering.{Ordering}
use Rattle.boogie_tree.specs.declared.exprs.BOp.{BOp}
use Rattle.boogie_tree.specs.declared.exprs.BOp.TheVariants as op

-- the order that a comparison looks for
abbrev pub tests : BOp → Ordering → Truth
tests op.Lt = is_lt
tests op.Le = is_le
tests op.Gt = is_gt
tests _ = is_ge
