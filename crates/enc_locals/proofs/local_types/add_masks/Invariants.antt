use Rattle.std.proofs.Common.{◌≡◌, ◌++◌, drop, map}
use Rattle.boogie_tree.specs.Whole.{type_of}
use Rattle.moves.specs.Maps.{mask_type}
use Rattle.enc_locals.proofs.local_types.add_masks.Given as goal

abbrev pub invariant-loop-ty : goal.invariant-loop-ty
invariant-loop-ty l = map type_of l.out.items ++ map mask_type (drop l._ty-index l.fields) ≡ map type_of l.initial.out.items ++ map mask_type l.fields
