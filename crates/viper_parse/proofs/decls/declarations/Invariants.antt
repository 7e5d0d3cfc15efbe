use Rattle.std.proofs.Common.{◌≤◌, length, map, []}
use Rattle.viper_syntax.specs.View.{decl_of}
use Rattle.viper_grammar.specs.Grammar as g
use Rattle.viper_grammar.specs.Greedy.{Goes}
use Rattle.viper_parse.proofs.decls.declarations.Given as goal

abbrev pub invariant-loop-next : goal.invariant-loop-next
invariant-loop-next l = record {
  shorter : length l.rest ≤ length l.tokens;
  goes : Goes (g.rule (g.Program [])) l.tokens (g.rule (g.Program (map decl_of l.all.items))) l.rest;
}

abbrev pub decreases-loop-next : goal.decreases-loop-next
decreases-loop-next l = length l.rest
