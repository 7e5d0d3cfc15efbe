-- What the statements so far change, and then what those that are left do.
use Rattle.std.proofs.Common.{◌≡◌, ◌++◌, drop}
use Rattle.boogie_loops.specs.View.{wstmts_of}
use Rattle.boogie_cut.specs.View.{changed_by}
use Rattle.boogie_cut.proofs.changed.+adding.Given as goal

abbrev pub invariant-add_block-loop-stmt : goal.invariant-add_block-loop-stmt
invariant-add_block-loop-stmt l = l.changed.items ++ changed_by (wstmts_of (drop l.stmt-index l.stmts)) ≡ l.initial.changed.items ++ changed_by (wstmts_of l.stmts)
