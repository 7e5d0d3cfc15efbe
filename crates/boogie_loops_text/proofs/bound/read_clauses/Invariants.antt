use Rattle.std.proofs.Common.{◌≤◌, length}
use Rattle.boogie_loops_grammar.specs.Grammar as g
use Rattle.boogie_loops_text.specs.Greedy.{Goes}
use Rattle.boogie_loops_grammar.specs.Trees.{no_clauses}
use Rattle.boogie_loops_text.specs.ClauseView.{contract_of}
use Rattle.boogie_loops_text.proofs.bound.read_clauses.Given as goal

abbrev pub invariant-loop-kind : goal.invariant-loop-kind
invariant-loop-kind l = record {
  shorter : length l.rest ≤ length l.tokens;
  goes : Goes (g.rule (g.Clauses l.fn.within.locals.now no_clauses)) l.tokens (g.rule (g.Clauses l.fn.within.locals.now (contract_of l.bound.items l.all))) l.rest;
}

abbrev pub decreases-loop-kind : goal.decreases-loop-kind
decreases-loop-kind l = length l.rest
