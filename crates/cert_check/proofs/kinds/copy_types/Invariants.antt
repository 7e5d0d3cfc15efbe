use Rattle.std.proofs.Common.{◌≡◌, map, take}
use Rattle.boogie_tree.specs.Whole.{type_of}
use Rattle.cert_check.proofs.kinds.copy_types.Given as goal

abbrev pub invariant-loop-ty : goal.invariant-loop-ty
invariant-loop-ty l = map type_of l.copies.items ≡ map type_of (take l.ty-index l.types)
