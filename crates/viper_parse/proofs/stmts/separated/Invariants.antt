use Rattle.std.proofs.Common.{◌≤◌, length}
use Rattle.viper_grammar.specs.Grammar as g
use Rattle.viper_grammar.specs.Greedy.{Goes}
use Rattle.viper_parse.proofs.stmts.separated.Given as goal

abbrev pub invariant-loop-after : goal.invariant-loop-after
invariant-loop-after l = record {
  shorter : length l.rest ≤ length l.tokens;
  goes : Goes (g.rule (g.Separated l.separator l.fn.first.items)) l.tokens (g.rule (g.Separated l.separator l.names.items)) l.rest;
}

abbrev pub decreases-loop-after : goal.decreases-loop-after
decreases-loop-after l = length l.rest
