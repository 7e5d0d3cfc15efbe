use Rattle.std.proofs.Common.{◌+◌, ◌*◌, ◌≤◌, ◌<◌, length, map}
use Rattle.viper_syntax.specs.View.{term_of}
use Rattle.viper_grammar.specs.Grammar as g
use Rattle.viper_grammar.specs.Greedy.{Goes, Reads}
use Rattle.viper_grammar.specs.View.{part_of}
use Rattle.viper_parse.proofs.terms.+terms.Given as goal

abbrev pub decreases-term : goal.decreases-term
decreases-term l = 16 * length l.tokens.now + 13

abbrev pub decreases-level : goal.decreases-level
decreases-level l = 16 * length l.tokens.now + 12

abbrev pub decreases-unary : goal.decreases-unary
decreases-unary l = 16 * length l.tokens.now + 11

abbrev pub decreases-first : goal.decreases-first
decreases-first l = 16 * length l.tokens.now + 10

abbrev pub decreases-group : goal.decreases-group
decreases-group l = 16 * length l.tokens.now + 9

abbrev pub decreases-choice : goal.decreases-choice
decreases-choice l = 16 * length l.tokens.now

abbrev pub decreases-chain : goal.decreases-chain
decreases-chain l = 16 * length l.tokens.now

abbrev pub decreases-opening : goal.decreases-opening
decreases-opening l = 16 * length l.tokens.now + 8

abbrev pub decreases-name_or_call : goal.decreases-name_or_call
decreases-name_or_call l = 16 * length l.tokens.now

abbrev pub decreases-access : goal.decreases-access
decreases-access l = 16 * length l.tokens.now

abbrev pub decreases-amount : goal.decreases-amount
decreases-amount l = 16 * length l.tokens.now

abbrev pub decreases-instance : goal.decreases-instance
decreases-instance l = 16 * length l.tokens.now + 7

abbrev pub decreases-call : goal.decreases-call
decreases-call l = 16 * length l.tokens.now + 6

abbrev pub decreases-arguments : goal.decreases-arguments
decreases-arguments l = 16 * length l.tokens.now + 14

-- what is read so far is a term of level m
abbrev pub invariant-level-loop-m : goal.invariant-level-loop-m
invariant-level-loop-m l = record {
  shorter : length l.rest < length l.tokens;
  reads : Reads _ (g.rule (g.Level l.m)) l.tokens (part_of l.part) l.rest;
}

abbrev pub invariant-chain-loop-operator : goal.invariant-chain-loop-operator
invariant-chain-loop-operator l = record {
  shorter : length l.rest ≤ length l.tokens;
  goes : Goes (g.rule (g.Chain l.n (part_of l.fn.first))) l.tokens (g.rule (g.Chain l.n (part_of l.part))) l.rest;
}

abbrev pub decreases-chain-loop-operator : goal.decreases-chain-loop-operator
decreases-chain-loop-operator l = length l.rest

abbrev pub invariant-arguments-loop-after : goal.invariant-arguments-loop-after
invariant-arguments-loop-after l = record {
  shorter : length l.rest < length l.tokens;
  goes : Goes (g.rule g.Arguments) l.tokens (g.rule (g.MoreArguments (map term_of l.all.items))) l.rest;
}

abbrev pub decreases-arguments-loop-after : goal.decreases-arguments-loop-after
decreases-arguments-loop-after l = length l.rest
