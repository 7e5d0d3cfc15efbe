use Rattle.std.proofs.Common.{◌≤◌, length}
use Rattle.boogie_tree.specs.Whole.{locals_of}
use Rattle.boogie_loops_grammar.specs.Grammar as g
use Rattle.boogie_loops_text.specs.Greedy.{Goes}
use Rattle.boogie_loops_text.specs.Heads.{AreNames}
use Rattle.boogie_loops_text.proofs.heads.more_params.Given as goal

abbrev pub invariant-loop-name : goal.invariant-loop-name
invariant-loop-name l = record {
  shorter : length l.rest ≤ length l.tokens;
  longer : length l.fn.before.items ≤ length l.all.items;
  names : AreNames l.names (locals_of l.all.items);
  goes : Goes (g.rule (g.Params (locals_of l.fn.before.items))) l.tokens (g.rule (g.Params (locals_of l.all.items))) l.rest;
}

abbrev pub decreases-loop-name : goal.decreases-loop-name
decreases-loop-name l = length l.rest
