use Rattle.std.proofs.Common.{◌+◌, ◌*◌, ◌≤◌, [], length, map}
use Rattle.boogie_loops.specs.View.{wstmt_of}
use Rattle.boogie_loops_grammar.specs.Grammar as g
use Rattle.boogie_loops_text.specs.Greedy.{Goes}
use Rattle.boogie_loops_text.proofs.stmts.+blocks.Given as goal

abbrev pub decreases-statements : goal.decreases-statements
decreases-statements l = 16 * length l.tokens.now + 12

abbrev pub decreases-statement : goal.decreases-statement
decreases-statement l = 16 * length l.tokens.now + 11

abbrev pub decreases-unworded : goal.decreases-unworded
decreases-unworded l = 16 * length l.tokens.now + 10

abbrev pub decreases-conditional : goal.decreases-conditional
decreases-conditional l = 16 * length l.tokens.now + 9

abbrev pub decreases-either : goal.decreases-either
decreases-either l = 16 * length l.tokens.now

abbrev pub decreases-choice : goal.decreases-choice
decreases-choice l = 16 * length l.tokens.now

abbrev pub decreases-looped : goal.decreases-looped
decreases-looped l = 16 * length l.tokens.now

abbrev pub decreases-turns : goal.decreases-turns
decreases-turns l = 16 * length l.tokens.now

abbrev pub decreases-block : goal.decreases-block
decreases-block l = 16 * length l.tokens.now + 1

abbrev pub decreases-otherwise : goal.decreases-otherwise
decreases-otherwise l = 16 * length l.tokens.now + 2

abbrev pub invariant-statements-loop-after : goal.invariant-statements-loop-after
invariant-statements-loop-after l = record {
  shorter : length l.rest ≤ length l.tokens;
  goes : Goes (g.rule (g.Statements l.fn.within.locals.now [])) l.tokens (g.rule (g.Statements l.fn.within.locals.now (map wstmt_of l.all.items))) l.rest;
}

abbrev pub decreases-statements-loop-after : goal.decreases-statements-loop-after
decreases-statements-loop-after l = length l.rest
