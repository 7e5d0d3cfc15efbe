use Rattle.std.proofs.Common.{◌≤◌, length}
use Rattle.boogie_tree.specs.Whole.{locals_of}
use Rattle.boogie_loops_grammar.specs.Grammar as g
use Rattle.boogie_loops_text.specs.Greedy.{Goes}
use Rattle.boogie_loops_text.specs.Heads.{AreNames}
use Rattle.boogie_loops_text.proofs.heads.vars.Given as goal

abbrev pub invariant-loop-after : goal.invariant-loop-after
invariant-loop-after l = record {
  shorter : length l.rest ≤ length l.tokens;
  names : AreNames l.names (locals_of l.all.items);
  goes : Goes (g.rule (g.Vars l.fn.bound (locals_of l.fn.before.items))) l.tokens (g.rule (g.Vars l.fn.bound (locals_of l.all.items))) l.rest;
}

abbrev pub decreases-loop-after : goal.decreases-loop-after
decreases-loop-after l = length l.rest
