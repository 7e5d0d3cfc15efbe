-- What is left of the indices has what is left of the types.
use Rattle.std.proofs.Common.{◌≡◌, ◌≤◌, drop, length}
use Rattle.boogie_tree.specs.Whole.{exprs_of}
use Rattle.boogie_meaning.specs.Types.{bases_of}
use Rattle.boogie_types.specs.Typed.{types_in, bound_by, are_bases}
use Rattle.boogie_types.proofs.typing.+typing.Given as goal

abbrev pub invariant-are_of-loop-e : goal.invariant-are_of-loop-e
invariant-are_of-loop-e l = record {
  place : l.count ≡ l.e-index;
  within : l.count ≤ length l.wanted;
  same : are_bases (bases_of (types_in l.locals) (bound_by l.names) (exprs_of l.es)) l.wanted ≡
      are_bases (bases_of (types_in l.locals) (bound_by l.names) (exprs_of (drop l.e-index l.es))) (drop l.count l.wanted);
}
