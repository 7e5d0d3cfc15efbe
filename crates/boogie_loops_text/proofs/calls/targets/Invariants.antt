use Rattle.std.proofs.Common.{◌≤◌, [], ◌∷◌, length}
use Rattle.boogie_loops_grammar.specs.Grammar as g
use Rattle.boogie_loops_text.specs.Greedy.{Goes}
use Rattle.boogie_loops_text.proofs.calls.targets.Given as goal

abbrev pub invariant-loop-after : goal.invariant-loop-after
invariant-loop-after l = record {
  shorter : length l.rest ≤ length l.tokens;
  goes : Goes (g.rule (g.Targets l.fn.locals (l.fn.first ∷ []))) l.tokens (g.rule (g.Targets l.fn.locals l.all.items)) l.rest;
}

abbrev pub decreases-loop-after : goal.decreases-loop-after
decreases-loop-after l = length l.rest
