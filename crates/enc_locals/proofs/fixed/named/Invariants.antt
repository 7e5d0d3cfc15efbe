use Rattle.std.proofs.Common.{◌≡◌, ◌++◌, map, length}
use Rattle.boogie_tree.specs.Whole.{type_of, locals_of}
use Rattle.enc_expr.specs.Locals.{named}
use Rattle.enc_locals.proofs.fixed.named.Given as goal

abbrev pub invariant-loop-name : goal.invariant-loop-name
invariant-loop-name l = locals_of l.locals.items ++ named l.names.rest.items (map type_of l.types.rest.items) ≡ named l.fn.names.items (map type_of l.fn.types.items)

abbrev pub decreases-loop-name : goal.decreases-loop-name
decreases-loop-name l = length l.names.rest.items
