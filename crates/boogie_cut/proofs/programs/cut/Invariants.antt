-- The procedures so far, and then those that are left.
use Rattle.std.proofs.Common.{◌≡◌, ◌++◌, drop, map}
use Rattle.boogie_tree.specs.Whole.{proc_of}
use Rattle.boogie_loops.specs.View.{wproc_of}
use Rattle.boogie_cut.specs.Cut.{cut_procs}
use Rattle.boogie_cut.proofs.programs.cut.Given as goal

abbrev pub invariant-loop-proc : goal.invariant-loop-proc
invariant-loop-proc l =
    map proc_of l.out.items ++ cut_procs (map wproc_of l.procs.all.now) (map wproc_of (drop l.proc-index l.proc-items)) ≡ cut_procs (map wproc_of l.procs.all.now) (map wproc_of l.proc-items)
