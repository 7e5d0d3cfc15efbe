use Rattle.std.proofs.Common.{◌≤◌, length, map, []}
use Rattle.viper_syntax.specs.View.{term_of}
use Rattle.viper_grammar.specs.Grammar as g
use Rattle.viper_grammar.specs.Greedy.{Goes}
use Rattle.viper_parse.proofs.stmts.invariants.Given as goal

abbrev pub invariant-loop-after : goal.invariant-loop-after
invariant-loop-after l = record {
  shorter : length l.rest ≤ length l.tokens;
  goes : Goes (g.rule (g.Invariants [])) l.tokens (g.rule (g.Invariants (map term_of l.all.items))) l.rest;
}

abbrev pub decreases-loop-after : goal.decreases-loop-after
decreases-loop-after l = length l.rest
