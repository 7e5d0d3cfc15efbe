use Rattle.std.proofs.Common.{◌≤◌, [], ◌∷◌, length}
use Rattle.boogie_grammar.specs.Grammar as g
use Rattle.boogie_grammar.specs.Greedy.{Goes}
use Rattle.boogie_text.proofs.types.more_keys.Given as goal

abbrev pub invariant-loop-after : goal.invariant-loop-after
invariant-loop-after l = record {
  shorter : length l.rest ≤ length l.tokens;
  goes : Goes (g.rule (g.MoreKeys (l.fn.first ∷ []))) l.tokens (g.rule (g.MoreKeys l.all.items)) l.rest;
}

abbrev pub decreases-loop-after : goal.decreases-loop-after
decreases-loop-after l = length l.rest
