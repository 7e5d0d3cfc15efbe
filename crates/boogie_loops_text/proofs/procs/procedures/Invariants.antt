use Rattle.std.proofs.Common.{◌≡◌, ◌≤◌, [], length, map}
use Rattle.boogie_loops.specs.View.{wproc_of}
use Rattle.boogie_loops_grammar.specs.Grammar as g
use Rattle.boogie_loops_text.specs.Greedy.{Goes}
use Rattle.boogie_loops_grammar.specs.Trees.{procedure_names}
use Rattle.boogie_loops_text.proofs.procs.procedures.Given as goal

abbrev pub invariant-loop-after : goal.invariant-loop-after
invariant-loop-after l = record {
  shorter : length l.rest ≤ length l.tokens;
  names : l.names ≡ procedure_names (map wproc_of l.all.items);
  goes : Goes (g.rule (g.Programs [])) l.tokens (g.rule (g.Programs (map wproc_of l.all.items))) l.rest;
}

abbrev pub decreases-loop-after : goal.decreases-loop-after
decreases-loop-after l = length l.rest
