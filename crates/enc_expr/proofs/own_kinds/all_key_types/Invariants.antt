-- The types so far.
use Rattle.std.proofs.Common.{◌≡◌, map, take}
use Rattle.boogie_tree.specs.Whole.{locals_of}
use Rattle.enc_expr.specs.ReadOff.{local_types, key_types}
use Rattle.enc_expr.proofs.own_kinds.all_key_types.Given as goal

abbrev pub invariant-loop-local : goal.invariant-loop-local
invariant-loop-local l = map (λ us. us.items) l.keys.items ≡ map (key_types (local_types (locals_of l.locals))) (take l.local-index l.numbers)
