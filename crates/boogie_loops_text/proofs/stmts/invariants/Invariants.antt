use Rattle.std.proofs.Common.{◌≤◌, [], length, map}
use Rattle.boogie_loops.specs.View.{clause_of}
use Rattle.boogie_loops_grammar.specs.Grammar as g
use Rattle.boogie_loops_text.specs.Greedy.{Goes}
use Rattle.boogie_loops_text.proofs.stmts.invariants.Given as goal

abbrev pub invariant-loop-after : goal.invariant-loop-after
invariant-loop-after l = record {
  shorter : length l.rest ≤ length l.tokens;
  goes : Goes (g.rule (g.Invariants l.fn.within.locals.now [])) l.tokens (g.rule (g.Invariants l.fn.within.locals.now (map clause_of l.all.items))) l.rest;
}

abbrev pub decreases-loop-after : goal.decreases-loop-after
decreases-loop-after l = length l.rest
