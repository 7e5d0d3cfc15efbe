use Rattle.std.proofs.Common.{◌≡◌, ◌++◌, drop, map}
use Rattle.boogie_tree.specs.Value.{One}
use Rattle.boogie_tree.specs.Whole.{value_of}
use Rattle.moves.specs.Scalars.{scalar}
use Rattle.enc_locals.proofs.openings.add_store.Given as goal

abbrev pub invariant-loop-value : goal.invariant-loop-value
invariant-loop-value l = map value_of l.values.items ++ map (λ v. One (scalar v)) (drop l.value-index l.store) ≡ map value_of l.initial.values.items ++ map (λ v. One (scalar v)) l.store
