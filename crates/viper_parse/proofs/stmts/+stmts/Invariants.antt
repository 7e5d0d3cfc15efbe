use Rattle.std.proofs.Common.{◌≤◌, ◌<◌, ◌+◌, ◌*◌, length, map, []}
use Rattle.viper_syntax.specs.View.{stmt_of, arm_of}
use Rattle.viper_grammar.specs.Grammar as g
use Rattle.viper_grammar.specs.Greedy.{Goes}
use Rattle.viper_parse.proofs.stmts.+stmts.Given as goal

abbrev pub decreases-statement : goal.decreases-statement
decreases-statement l = 8 * length l.tokens.now + 3

abbrev pub decreases-statements : goal.decreases-statements
decreases-statements l = 8 * length l.tokens.now + 4

abbrev pub decreases-arm : goal.decreases-arm
decreases-arm l = 8 * length l.tokens.now + 2

abbrev pub decreases-branches : goal.decreases-branches
decreases-branches l = 8 * length l.tokens.now + 3

abbrev pub decreases-while_loop : goal.decreases-while_loop
decreases-while_loop l = 8 * length l.tokens.now + 2

abbrev pub decreases-block : goal.decreases-block
decreases-block l = 8 * length l.tokens.now + 1

abbrev pub invariant-branches-loop-place : goal.invariant-branches-loop-place
invariant-branches-loop-place l = record {
  shorter : length l.rest < length l.tokens;
  goes : Goes (g.branches l.fn.at) l.tokens (g.rule (g.Arms (map arm_of l.all.items))) l.rest;
}

abbrev pub decreases-branches-loop-place : goal.decreases-branches-loop-place
decreases-branches-loop-place l = length l.rest

abbrev pub invariant-statements-each : goal.invariant-statements-each
invariant-statements-each l = record {
  shorter : length l.rest ≤ length l.tokens;
  goes : Goes (g.rule (g.Statements [])) l.tokens (g.rule (g.Statements (map stmt_of l.all.items))) l.rest;
}

abbrev pub decreases-statements-each : goal.decreases-statements-each
decreases-statements-each l = length l.rest
