use Rattle.std.proofs.Common.{◌≤◌, length}
use Rattle.viper_grammar.specs.Grammar as g
use Rattle.viper_grammar.specs.Greedy.{Goes}
use Rattle.viper_grammar.specs.View.{part_of}
use Rattle.viper_parse.proofs.terms.fields.Given as goal

abbrev pub invariant-loop-after : goal.invariant-loop-after
invariant-loop-after l = record {
  shorter : length l.rest ≤ length l.tokens;
  goes : Goes (g.rule (g.Fields (part_of l.fn.first))) l.tokens (g.rule (g.Fields (part_of l.part))) l.rest;
}

abbrev pub decreases-loop-after : goal.decreases-loop-after
decreases-loop-after l = length l.rest
