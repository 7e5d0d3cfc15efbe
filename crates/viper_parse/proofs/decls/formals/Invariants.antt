use Rattle.std.proofs.Common.{◌<◌, length}
use Rattle.viper_grammar.specs.Grammar as g
use Rattle.viper_grammar.specs.Greedy.{Goes}
use Rattle.viper_parse.proofs.decls.formals.Given as goal

abbrev pub invariant-loop-after : goal.invariant-loop-after
invariant-loop-after l = record {
  shorter : length l.rest < length l.tokens;
  goes : Goes (g.rule g.Formals) l.tokens (g.rule (g.MoreFormals l.all.items)) l.rest;
}

abbrev pub decreases-loop-after : goal.decreases-loop-after
decreases-loop-after l = length l.rest
