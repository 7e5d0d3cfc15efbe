use Rattle.std.proofs.Common.{◌+◌, ◌*◌, ◌<◌, length, map}
use Rattle.boogie_tree.specs.Whole.{expr_of}
use Rattle.boogie_grammar.specs.Grammar as g
use Rattle.boogie_grammar.specs.Greedy.{Goes}
use Rattle.boogie_grammar.specs.ReadView.{scope_of}
use Rattle.boogie_text.proofs.exprs.+expressions.Given as goal

abbrev pub decreases-expr : goal.decreases-expr
decreases-expr l = 16 * length l.tokens.now + 10

abbrev pub decreases-wrapped : goal.decreases-wrapped
decreases-wrapped l = 16 * length l.tokens.now

abbrev pub decreases-closed : goal.decreases-closed
decreases-closed l = 16 * length l.tokens.now + 11

abbrev pub decreases-paired : goal.decreases-paired
decreases-paired l = 16 * length l.tokens.now

abbrev pub decreases-named : goal.decreases-named
decreases-named l = 16 * length l.tokens.now

abbrev pub decreases-indices : goal.decreases-indices
decreases-indices l = 16 * length l.tokens.now + 13

abbrev pub decreases-exprs : goal.decreases-exprs
decreases-exprs l = 16 * length l.tokens.now + 12

abbrev pub decreases-in_parens : goal.decreases-in_parens
decreases-in_parens l = 16 * length l.tokens.now + 9

abbrev pub decreases-inside : goal.decreases-inside
decreases-inside l = 16 * length l.tokens.now + 12

abbrev pub decreases-choice : goal.decreases-choice
decreases-choice l = 16 * length l.tokens.now + 11

abbrev pub decreases-binary : goal.decreases-binary
decreases-binary l = 16 * length l.tokens.now + 11

abbrev pub decreases-quantified : goal.decreases-quantified
decreases-quantified l = 16 * length l.tokens.now + 1

abbrev pub decreases-binding : goal.decreases-binding
decreases-binding l = 16 * length l.tokens.now

abbrev pub invariant-exprs-loop-after : goal.invariant-exprs-loop-after
invariant-exprs-loop-after l = record {
  shorter : length l.rest < length l.tokens;
  goes : Goes (g.rule (g.Exprs (scope_of l.fn.scope))) l.tokens (g.rule (g.MoreExprs (scope_of l.fn.scope) (map expr_of l.all.items))) l.rest;
}

abbrev pub decreases-exprs-loop-after : goal.decreases-exprs-loop-after
decreases-exprs-loop-after l = length l.rest
