-- The types of the keys so far.
use Rattle.std.proofs.Common.{◌≡◌, map, take}
use Rattle.moves.specs.Scalars.{base_for}
use Rattle.enc_expr.proofs.openings.indexed_map_of.Given as goal

abbrev pub invariant-loop-ty : goal.invariant-loop-ty
invariant-loop-ty l = l.keys.items ≡ map base_for (take l.ty-index l.params)
