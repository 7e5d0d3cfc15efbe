use Rattle.std.proofs.Common.{◌≤◌, [], length, map}
use Rattle.boogie_tree.specs.Whole.{expr_of}
use Rattle.boogie_loops_grammar.specs.Grammar as g
use Rattle.boogie_loops_text.specs.Greedy.{Goes}
use Rattle.boogie_loops_text.proofs.calls.more_arguments.Given as goal

abbrev pub invariant-loop-next : goal.invariant-loop-next
invariant-loop-next l = record {
  shorter : length l.rest ≤ length l.tokens;
  goes : Goes (g.rule (g.MoreArguments l.fn.within.locals.now [])) l.tokens (g.rule (g.MoreArguments l.fn.within.locals.now (map expr_of l.all.items))) l.rest;
}

abbrev pub decreases-loop-next : goal.decreases-loop-next
decreases-loop-next l = length l.rest
