-- The types so far.
use Rattle.std.proofs.Common.{◌≡◌, map, take}
use Rattle.boogie_tree.specs.Whole.{locals_of}
use Rattle.enc_expr.specs.ReadOff.{local_types, value_type}
use Rattle.enc_expr.proofs.own_kinds.value_types.Given as goal

abbrev pub invariant-loop-local : goal.invariant-loop-local
invariant-loop-local l = l.types.items ≡ map (value_type (local_types (locals_of l.locals))) (take l.local-index l.numbers)
