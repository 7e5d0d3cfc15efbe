-- The arguments that are left have the types of the parameters that are left.
use Rattle.std.proofs.Common.{◌≡◌, ◌≤◌, drop, length}
use Rattle.boogie_tree.specs.Whole.{exprs_of}
use Rattle.boogie_types.specs.Typed.{types_in}
use Rattle.boogie_loops.specs.WideTypes.{are_arguments}
use Rattle.boogie_loops_types.proofs.calls.are_arguments.Given as goal

abbrev pub invariant-loop-e : goal.invariant-loop-e
invariant-loop-e l = record {
  place : l.count ≡ l.e-index;
  within : l.count ≤ length l.params;
  same : are_arguments (types_in l.locals) (exprs_of l.es) (types_in l.params) ≡
      are_arguments (types_in l.locals) (exprs_of (drop l.e-index l.es)) (types_in (drop l.count l.params));
}
