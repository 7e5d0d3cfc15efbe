-- The types so far.
use Rattle.std.proofs.Common.{◌≡◌, map, take}
use Rattle.enc_expr.specs.ReadOff.{ty_for}
use Rattle.enc_expr.proofs.own_kinds.tys_for.Given as goal

abbrev pub invariant-loop-base : goal.invariant-loop-base
invariant-loop-base l = l.types.items ≡ map ty_for (take l.base-index l.bases)
