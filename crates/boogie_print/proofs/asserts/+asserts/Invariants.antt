use Rattle.std.proofs.Common.{◌≡◌, ◌+◌, ◌-◌, ◌^◌, ◌<◌, min, drop}
use Rattle.boogie_tree.specs.Whole.{stmts_of}
use Rattle.boogie_print.specs.Asserts.{asserts_in}
use Rattle.boogie_print.proofs.asserts.+asserts.Given as goal

-- those that are counted and those that are left are all
abbrev pub invariant-count_asserts-loop-stmt : goal.invariant-count_asserts-loop-stmt
invariant-count_asserts-loop-stmt l =
    record {
      in_range : l.count < 2 ^ 64;
      so_far : min (l.count + asserts_in (stmts_of (drop l.stmt-index l.code))) (2 ^ 64 - 1) ≡ min (l.before + asserts_in (stmts_of l.code)) (2 ^ 64 - 1);
    }
