use Rattle.std.proofs.Common.{◌≤◌, length, map, []}
use Rattle.viper_syntax.specs.View.{clause_of}
use Rattle.viper_grammar.specs.Grammar as g
use Rattle.viper_grammar.specs.Greedy.{Goes}
use Rattle.viper_parse.proofs.decls.clauses.Given as goal

abbrev pub invariant-loop-word : goal.invariant-loop-word
invariant-loop-word l = record {
  shorter : length l.rest ≤ length l.tokens;
  goes : Goes (g.rule (g.Clauses [])) l.tokens (g.rule (g.Clauses (map clause_of l.all.items))) l.rest;
}

abbrev pub decreases-loop-word : goal.decreases-loop-word
decreases-loop-word l = length l.rest
