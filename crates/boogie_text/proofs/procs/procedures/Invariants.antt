use Rattle.std.proofs.Common.{◌≡◌, ◌≤◌, [], length, map}
use Rattle.boogie_tree.specs.Whole.{proc_of}
use Rattle.boogie_grammar.specs.Grammar as g
use Rattle.boogie_grammar.specs.Grammar.{proc_names}
use Rattle.boogie_grammar.specs.Greedy.{Goes}
use Rattle.boogie_text.proofs.procs.procedures.Given as goal

abbrev pub invariant-loop-after : goal.invariant-loop-after
invariant-loop-after l = record {
  shorter : length l.rest ≤ length l.tokens;
  names : l.names ≡ proc_names (map proc_of l.all.items);
  goes : Goes (g.rule (g.Program [])) l.tokens (g.rule (g.Program (map proc_of l.all.items))) l.rest;
}

abbrev pub decreases-loop-after : goal.decreases-loop-after
decreases-loop-after l = length l.rest
