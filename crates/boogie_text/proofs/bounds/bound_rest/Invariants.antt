use Rattle.std.proofs.Common.{◌≤◌, length}
use Rattle.boogie_grammar.specs.Grammar as g
use Rattle.boogie_grammar.specs.Greedy.{Goes}
use Rattle.boogie_text.proofs.bounds.bound_rest.Given as goal

abbrev pub invariant-loop-name : goal.invariant-loop-name
invariant-loop-name l = record {
  shorter : length l.rest ≤ length l.tokens;
  goes : Goes (g.rule (g.BoundRest l.fn.names)) l.tokens (g.rule (g.BoundRest l.left)) l.rest;
}

abbrev pub decreases-loop-name : goal.decreases-loop-name
decreases-loop-name l = length l.left
