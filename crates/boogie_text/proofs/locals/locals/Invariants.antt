use Rattle.std.proofs.Common.{◌≡◌, ◌≤◌, [], length}
use Rattle.boogie_tree.specs.Whole.{locals_of}
use Rattle.boogie_grammar.specs.Grammar as g
use Rattle.boogie_grammar.specs.Grammar.{local_names}
use Rattle.boogie_grammar.specs.Greedy.{Goes}
use Rattle.boogie_text.proofs.locals.locals.Given as goal

abbrev pub invariant-loop-after : goal.invariant-loop-after
invariant-loop-after l = record {
  shorter : length l.rest ≤ length l.tokens;
  names : l.names ≡ local_names (locals_of l.all.items);
  goes : Goes (g.rule (g.Locals [])) l.tokens (g.rule (g.Locals (locals_of l.all.items))) l.rest;
}

abbrev pub decreases-loop-after : goal.decreases-loop-after
decreases-loop-after l = length l.rest
