use Rattle.std.proofs.Common.{◌≡◌, ◌++◌, drop, map}
use Rattle.boogie_tree.specs.Whole.{type_of}
use Rattle.moves.specs.Maps.{indexed_type}
use Rattle.enc_locals.proofs.local_types.add_indexed.Given as goal

abbrev pub invariant-loop-params : goal.invariant-loop-params
invariant-loop-params l =
    map type_of l.out.items ++ map (indexed_type l.base) (map (λ us. us.items) (drop l.params-index l.keys))
    ≡ map type_of l.initial.out.items ++ map (indexed_type l.base) (map (λ us. us.items) l.keys)
