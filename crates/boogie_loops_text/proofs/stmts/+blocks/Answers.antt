use Rattle.std.proofs.Common.{[], refl, ap, arith, map, Some, None}
use Rattle.boogie_loops.specs.Wide as w
use Rattle.boogie_loops.specs.View.{wstmt_of}
use Rattle.boogie_loops_grammar.specs.Grammar as g
use Rattle.boogie_loops_text.specs.View.{all_wstmts_of, block_of, picked, loop_of}
use Rattle.boogie_loops_grammar.proofs.Reading.{wide_steps}
use Rattle.boogie_loops_text.proofs.Steps.{by_need, by_token, by_other, by_old, by_part, rest_error, part_error, old_error, token_error, tail, by_variable, by_no_variable}
use Rattle.grammar.proofs.LessLaws.{less, less_on, no_more_on, less_end, end_less}
use Rattle.boogie_tree.specs.Whole.{expr_of}
use Rattle.grammar.specs.Wider.{new}
use Rattle.grammar.proofs.Pushed.{pushed_more}
use Rattle.boogie_loops.specs.View.{wstmts_of}
use Rattle.boogie_loops.proofs.ViewLaws.{wstmt_of-If, wstmt_of-Either, wstmt_of-While}
use Rattle.boogie_loops_text.proofs.WideStmts.{at_worded, wstmts_of-map, read_as, no_havoc, havoc_next, havoc_refuses}
use Rattle.boogie_loops_text.proofs.stmts.+blocks.Goals as goal
open wide_steps use {start, whole, whole_as, pass_on, goes_at, goes_then}

pub statements-loop-after-init : goal.statements-loop-after-init
statements-loop-after-init t c =
    record { shorter = omega arith; goes = goes_at (new g.stmts) (λ xs. g.rule (g.Statements c.args.within.locals.now xs)) (ap (map wstmt_of) c.new-all.ensures.items) (start (g.rule (g.Statements c.args.within.locals.now [])) c.args.tokens.now) }

pub statements-returns-in-Some-clause-reads : goal.statements-returns-in-Some-clause-reads
statements-returns-in-Some-clause-reads t c =
    whole (by_token c.in-Some.ensures.eats c.loop-after.invariant.goes)

pub statements-returns-in-Some-clause-shorter : goal.statements-returns-in-Some-clause-shorter
statements-returns-in-Some-clause-shorter t c = end_less c.loop-after.invariant.shorter c.in-Some.ensures.shorter

pub statements-returns-in_err-next-clause-reads : goal.statements-returns-in_err-next-clause-reads
statements-returns-in_err-next-clause-reads t c =
    part_error all_wstmts_of _ _ c.from_residual.ensures.1 (by_other c.in_default.ensures.eats c.loop-after.invariant.goes) c.in_err-next.ensures.reads

pub statements-loop-after-preserved : goal.statements-loop-after-preserved
statements-loop-after-preserved t c =
    record { shorter = omega (arith, c.in_ok-next.ensures.shorter, c.loop-after.invariant.shorter); goes = goes_at (new g.stmts) (λ xs. g.rule (g.Statements c.args.within.locals.now xs)) (pushed_more wstmt_of _ c.in_ok-all.ensures refl) (tail (by_part c.in_ok-next.ensures.reads (by_other c.in_default.ensures.eats c.loop-after.invariant.goes))) }

pub statement-returns-in-Some-clause-reads : goal.statement-returns-in-Some-clause-reads
statement-returns-in-Some-clause-reads t c =
    pass_on wstmt_of _ (by_token c.in-Some.ensures.eats (at_worded c.args.within.locals.now c.args.tokens.now c.requires)) c.looped.ensures.reads

pub statement-returns-in-Some-clause-shorter : goal.statement-returns-in-Some-clause-shorter
statement-returns-in-Some-clause-shorter t c = less_on _ c.looped.result c.in-Some.ensures.shorter c.looped.ensures.shorter

pub statement-returns-in-Some-eat_wide-clause-reads : goal.statement-returns-in-Some-eat_wide-clause-reads
statement-returns-in-Some-eat_wide-clause-reads t c =
    pass_on wstmt_of _ (by_token c.in-Some-eat_wide.ensures.eats (by_other c.in_default.ensures.eats (at_worded c.args.within.locals.now c.args.tokens.now c.requires))) c.call.ensures.reads

pub statement-returns-in-Some-eat_wide-clause-shorter : goal.statement-returns-in-Some-eat_wide-clause-shorter
statement-returns-in-Some-eat_wide-clause-shorter t c = less_on _ c.call.result c.in-Some-eat_wide.ensures.shorter c.call.ensures.shorter

pub statement-returns-clause-reads : goal.statement-returns-clause-reads
statement-returns-clause-reads t c =
    pass_on wstmt_of _ (by_other c.in_default-eat_wide.ensures.eats (by_other c.in_default.ensures.eats (at_worded c.args.within.locals.now c.args.tokens.now c.requires))) c.unworded.ensures.reads

pub statement-returns-clause-shorter : goal.statement-returns-clause-shorter
statement-returns-clause-shorter t c = c.unworded.ensures.shorter

pub unworded-returns-in-Some-clause-reads : goal.unworded-returns-in-Some-clause-reads
unworded-returns-in-Some-clause-reads t c =
    pass_on wstmt_of _ (by_token c.in-Some.ensures.eats (start (g.simple c.args.within.locals.now) c.args.tokens.now)) c.assumption.ensures.reads

pub unworded-returns-in-Some-clause-shorter : goal.unworded-returns-in-Some-clause-shorter
unworded-returns-in-Some-clause-shorter t c = less_on _ c.assumption.result c.in-Some.ensures.shorter c.assumption.ensures.shorter

pub unworded-returns-in-Some-eat_word-clause-reads : goal.unworded-returns-in-Some-eat_word-clause-reads
unworded-returns-in-Some-eat_word-clause-reads t c =
    pass_on wstmt_of _ (by_token c.in-Some-eat_word.ensures.eats (by_other c.in_default.ensures.eats (start (g.simple c.args.within.locals.now) c.args.tokens.now))) c.assertion.ensures.reads

pub unworded-returns-in-Some-eat_word-clause-shorter : goal.unworded-returns-in-Some-eat_word-clause-shorter
unworded-returns-in-Some-eat_word-clause-shorter t c = less_on _ c.assertion.result c.in-Some-eat_word.ensures.shorter c.assertion.ensures.shorter

pub unworded-returns-in_err-i-clause-reads : goal.unworded-returns-in_err-i-clause-reads
unworded-returns-in_err-i-clause-reads t c =
    rest_error wstmt_of _ _ c.from_residual.ensures.1 (by_other c.in_default-eat_word.ensures.eats (by_other c.in_default.ensures.eats (start (g.simple c.args.within.locals.now) c.args.tokens.now))) (havoc_refuses c.args.within.locals.now _ _ c.in_err-i.ensures.eats)

pub unworded-returns-in_err-after-clause-reads : goal.unworded-returns-in_err-after-clause-reads
unworded-returns-in_err-after-clause-reads t c =
    token_error wstmt_of _ _ c.from_residual-in_err-after.ensures.1 (goes_then (by_other c.in_default-eat_word.ensures.eats (by_other c.in_default.ensures.eats (start (g.simple c.args.within.locals.now) c.args.tokens.now))) (havoc_next c.args.within.locals.now (rw c.in-Some-2.is at c.in_ok-i.ensures.eats))) c.in_err-after.ensures.takes

pub unworded-returns-in-Some-2-clause-reads : goal.unworded-returns-in-Some-2-clause-reads
unworded-returns-in-Some-2-clause-reads t c =
    whole (by_need c.in_ok-after.ensures.takes (goes_then (by_other c.in_default-eat_word.ensures.eats (by_other c.in_default.ensures.eats (start (g.simple c.args.within.locals.now) c.args.tokens.now))) (havoc_next c.args.within.locals.now (rw c.in-Some-2.is at c.in_ok-i.ensures.eats))))

pub unworded-returns-in-Some-2-clause-shorter : goal.unworded-returns-in-Some-2-clause-shorter
unworded-returns-in-Some-2-clause-shorter t c = less (rw c.in-Some-2.is at c.in_ok-i.ensures.shorter) c.in_ok-after.ensures.shorter

pub unworded-returns-in-Some-eat_variable-clause-reads : goal.unworded-returns-in-Some-eat_variable-clause-reads
unworded-returns-in-Some-eat_variable-clause-reads t c =
    pass_on wstmt_of _ (by_variable (λ i. g.assignment c.args.within.locals.now i) (g.conditional c.args.within.locals.now) {names = c.args.within.locals.now} c.in-Some-eat_variable.ensures.eats (goes_then (by_other c.in_default-eat_word.ensures.eats (by_other c.in_default.ensures.eats (start (g.simple c.args.within.locals.now) c.args.tokens.now))) (no_havoc c.args.within.locals.now (rw c.in_default-2.is at c.in_ok-i.ensures.eats)))) c.assignment.ensures.reads

pub unworded-returns-in-Some-eat_variable-clause-shorter : goal.unworded-returns-in-Some-eat_variable-clause-shorter
unworded-returns-in-Some-eat_variable-clause-shorter t c = less_on _ c.assignment.result c.in-Some-eat_variable.ensures.shorter c.assignment.ensures.shorter

pub unworded-returns-clause-reads : goal.unworded-returns-clause-reads
unworded-returns-clause-reads t c =
    pass_on wstmt_of _ (by_no_variable (λ i. g.assignment c.args.within.locals.now i) (g.conditional c.args.within.locals.now) {names = c.args.within.locals.now} c.in_default-eat_variable.ensures.eats (goes_then (by_other c.in_default-eat_word.ensures.eats (by_other c.in_default.ensures.eats (start (g.simple c.args.within.locals.now) c.args.tokens.now))) (no_havoc c.args.within.locals.now (rw c.in_default-2.is at c.in_ok-i.ensures.eats)))) c.conditional.ensures.reads

pub unworded-returns-clause-shorter : goal.unworded-returns-clause-shorter
unworded-returns-clause-shorter t c = c.conditional.ensures.shorter

pub conditional-returns-in_err-rest-clause-reads : goal.conditional-returns-in_err-rest-clause-reads
conditional-returns-in_err-rest-clause-reads t c =
    token_error wstmt_of _ _ c.from_residual.ensures.1 (start (g.conditional c.args.within.locals.now) c.args.tokens.now) c.in_err-rest.ensures.takes

pub conditional-returns-in_err-rest-2-clause-reads : goal.conditional-returns-in_err-rest-2-clause-reads
conditional-returns-in_err-rest-2-clause-reads t c =
    token_error wstmt_of _ _ c.from_residual-in_err-rest-2.ensures.1 (by_need c.in_ok-rest.ensures.takes (start (g.conditional c.args.within.locals.now) c.args.tokens.now)) c.in_err-rest-2.ensures.takes

pub conditional-returns-in-Some-clause-reads : goal.conditional-returns-in-Some-clause-reads
conditional-returns-in-Some-clause-reads t c =
    pass_on wstmt_of _ (by_token c.in-Some.ensures.eats (by_need c.in_ok-rest-2.ensures.takes (by_need c.in_ok-rest.ensures.takes (start (g.conditional c.args.within.locals.now) c.args.tokens.now)))) c.either.ensures.reads

pub conditional-returns-in-Some-clause-shorter : goal.conditional-returns-in-Some-clause-shorter
conditional-returns-in-Some-clause-shorter t c = less_on _ c.either.result (less (less c.in_ok-rest.ensures.shorter c.in_ok-rest-2.ensures.shorter) c.in-Some.ensures.shorter) c.either.ensures.shorter

pub conditional-returns-clause-reads : goal.conditional-returns-clause-reads
conditional-returns-clause-reads t c =
    pass_on wstmt_of _ (by_other c.in_default.ensures.eats (by_need c.in_ok-rest-2.ensures.takes (by_need c.in_ok-rest.ensures.takes (start (g.conditional c.args.within.locals.now) c.args.tokens.now)))) c.choice.ensures.reads

pub conditional-returns-clause-shorter : goal.conditional-returns-clause-shorter
conditional-returns-clause-shorter t c = less_on _ c.choice.result (less c.in_ok-rest.ensures.shorter c.in_ok-rest-2.ensures.shorter) c.choice.ensures.shorter

pub either-returns-in_err-rest-clause-reads : goal.either-returns-in_err-rest-clause-reads
either-returns-in_err-rest-clause-reads t c =
    token_error wstmt_of _ _ c.from_residual.ensures.1 (start (g.branches c.args.within.locals.now w.Either) c.args.tokens.now) c.in_err-rest.ensures.takes

pub either-returns-in_err-first-clause-reads : goal.either-returns-in_err-first-clause-reads
either-returns-in_err-first-clause-reads t c =
    part_error wstmt_of _ _ c.from_residual-in_err-first.ensures.1 (by_need c.in_ok-rest.ensures.takes (start (g.branches c.args.within.locals.now w.Either) c.args.tokens.now)) c.in_err-first.ensures.reads

pub either-returns-in_err-second-clause-reads : goal.either-returns-in_err-second-clause-reads
either-returns-in_err-second-clause-reads t c =
    part_error wstmt_of _ _ c.from_residual-in_err-second.ensures.1 (by_part c.in_ok-first.ensures.reads (by_need c.in_ok-rest.ensures.takes (start (g.branches c.args.within.locals.now w.Either) c.args.tokens.now))) c.in_err-second.ensures.reads

pub either-returns-clause-reads : goal.either-returns-clause-reads
either-returns-clause-reads t c =
    whole_as (by_part c.in_ok-second.ensures.reads (by_part c.in_ok-first.ensures.reads (by_need c.in_ok-rest.ensures.takes (start (g.branches c.args.within.locals.now w.Either) c.args.tokens.now)))) (wstmt_of-Either c.in_ok-first.first c.in_ok-second.second)

pub either-returns-clause-shorter : goal.either-returns-clause-shorter
either-returns-clause-shorter t c = less_end (less c.in_ok-rest.ensures.shorter c.in_ok-first.ensures.shorter) c.in_ok-second.ensures.shorter

pub choice-returns-in_err-condition-clause-reads : goal.choice-returns-in_err-condition-clause-reads
choice-returns-in_err-condition-clause-reads t c =
    old_error wstmt_of _ _ c.from_residual.ensures.1 (start (picked c.args.within.locals.now) c.args.tokens.now) c.in_err-condition.ensures.reads

pub choice-returns-in_err-rest-clause-reads : goal.choice-returns-in_err-rest-clause-reads
choice-returns-in_err-rest-clause-reads t c =
    token_error wstmt_of _ _ c.from_residual-in_err-rest.ensures.1 (by_old c.in_ok-condition.ensures.reads (start (picked c.args.within.locals.now) c.args.tokens.now)) c.in_err-rest.ensures.takes

pub choice-returns-in_err-first-clause-reads : goal.choice-returns-in_err-first-clause-reads
choice-returns-in_err-first-clause-reads t c =
    part_error wstmt_of _ _ c.from_residual-in_err-first.ensures.1 (by_need c.in_ok-rest.ensures.takes (by_old c.in_ok-condition.ensures.reads (start (picked c.args.within.locals.now) c.args.tokens.now))) c.in_err-first.ensures.reads

pub choice-returns-in_err-second-clause-reads : goal.choice-returns-in_err-second-clause-reads
choice-returns-in_err-second-clause-reads t c =
    part_error wstmt_of _ _ c.from_residual-in_err-second.ensures.1 (by_part c.in_ok-first.ensures.reads (by_need c.in_ok-rest.ensures.takes (by_old c.in_ok-condition.ensures.reads (start (picked c.args.within.locals.now) c.args.tokens.now)))) c.in_err-second.ensures.reads

pub choice-returns-clause-reads : goal.choice-returns-clause-reads
choice-returns-clause-reads t c =
    whole_as (by_part c.in_ok-second.ensures.reads (by_part c.in_ok-first.ensures.reads (by_need c.in_ok-rest.ensures.takes (by_old c.in_ok-condition.ensures.reads (start (picked c.args.within.locals.now) c.args.tokens.now))))) (wstmt_of-If c.in_ok-condition.condition c.in_ok-first.first c.in_ok-second.second)

pub choice-returns-clause-shorter : goal.choice-returns-clause-shorter
choice-returns-clause-shorter t c = less_end (less (less c.in_ok-condition.ensures.shorter c.in_ok-rest.ensures.shorter) c.in_ok-first.ensures.shorter) c.in_ok-second.ensures.shorter

pub looped-returns-in_err-rest-clause-reads : goal.looped-returns-in_err-rest-clause-reads
looped-returns-in_err-rest-clause-reads t c =
    token_error wstmt_of _ _ c.from_residual.ensures.1 (start (g.loop c.args.within.locals.now) c.args.tokens.now) c.in_err-rest.ensures.takes

pub looped-returns-in_err-invariants-clause-reads : goal.looped-returns-in_err-invariants-clause-reads
looped-returns-in_err-invariants-clause-reads t c =
    rest_error wstmt_of _ _ c.from_residual-in_err-invariants.ensures.1 (by_token c.in-Some.ensures.eats (by_need c.in_ok-rest.ensures.takes (start (g.loop c.args.within.locals.now) c.args.tokens.now))) (c.in_err-invariants.ensures.reads None)

pub looped-returns-in-Some-clause-reads : goal.looped-returns-in-Some-clause-reads
looped-returns-in-Some-clause-reads t c =
    read_as (wstmt_of-While None c.in_ok-invariants.invariants c.in_ok-invariants.body) ((by_token c.in-Some.ensures.eats (by_need c.in_ok-rest.ensures.takes (start (g.loop c.args.within.locals.now) c.args.tokens.now))).reads _ _ (c.in_ok-invariants.ensures.reads None))

pub looped-returns-in-Some-clause-shorter : goal.looped-returns-in-Some-clause-shorter
looped-returns-in-Some-clause-shorter t c = less (less c.in_ok-rest.ensures.shorter c.in-Some.ensures.shorter) c.in_ok-invariants.ensures.shorter

pub looped-returns-in_err-guard-clause-reads : goal.looped-returns-in_err-guard-clause-reads
looped-returns-in_err-guard-clause-reads t c =
    old_error wstmt_of _ _ c.from_residual-in_err-guard.ensures.1 (by_other c.in_default.ensures.eats (by_need c.in_ok-rest.ensures.takes (start (g.loop c.args.within.locals.now) c.args.tokens.now))) c.in_err-guard.ensures.reads

pub looped-returns-in_err-invariants-2-clause-reads : goal.looped-returns-in_err-invariants-2-clause-reads
looped-returns-in_err-invariants-2-clause-reads t c =
    rest_error wstmt_of _ _ c.from_residual-in_err-invariants-2.ensures.1 (by_old c.in_ok-guard.ensures.reads (by_other c.in_default.ensures.eats (by_need c.in_ok-rest.ensures.takes (start (g.loop c.args.within.locals.now) c.args.tokens.now)))) (c.in_err-invariants-2.ensures.reads (Some (expr_of c.in_ok-guard.guard)))

pub looped-returns-clause-reads : goal.looped-returns-clause-reads
looped-returns-clause-reads t c =
    read_as (wstmt_of-While (Some c.in_ok-guard.guard) c.in_ok-invariants-2.invariants c.in_ok-invariants-2.body) ((by_old c.in_ok-guard.ensures.reads (by_other c.in_default.ensures.eats (by_need c.in_ok-rest.ensures.takes (start (g.loop c.args.within.locals.now) c.args.tokens.now)))).reads _ _ (c.in_ok-invariants-2.ensures.reads (Some (expr_of c.in_ok-guard.guard))))

pub looped-returns-clause-shorter : goal.looped-returns-clause-shorter
looped-returns-clause-shorter t c = less (less c.in_ok-rest.ensures.shorter c.in_ok-guard.ensures.shorter) c.in_ok-invariants-2.ensures.shorter

pub turns-returns-in_err-rest-clause-reads : goal.turns-returns-in_err-rest-clause-reads
turns-returns-in_err-rest-clause-reads t c =
    λ guard. token_error (loop_of guard) _ _ c.from_residual.ensures.1 (start (g.looping c.args.within.locals.now guard) c.args.tokens.now) c.in_err-rest.ensures.takes

pub turns-returns-in_err-all-clause-reads : goal.turns-returns-in_err-all-clause-reads
turns-returns-in_err-all-clause-reads t c =
    λ guard. part_error (loop_of guard) _ _ c.from_residual-in_err-all.ensures.1 (by_need c.in_ok-rest.ensures.takes (start (g.looping c.args.within.locals.now guard) c.args.tokens.now)) c.in_err-all.ensures.reads

pub turns-returns-in_err-body-clause-reads : goal.turns-returns-in_err-body-clause-reads
turns-returns-in_err-body-clause-reads t c =
    λ guard. part_error (loop_of guard) _ _ c.from_residual-in_err-body.ensures.1 (by_part c.in_ok-all.ensures.reads (by_need c.in_ok-rest.ensures.takes (start (g.looping c.args.within.locals.now guard) c.args.tokens.now))) c.in_err-body.ensures.reads

pub turns-returns-clause-reads : goal.turns-returns-clause-reads
turns-returns-clause-reads t c =
    λ guard. whole (by_part c.in_ok-body.ensures.reads (by_part c.in_ok-all.ensures.reads (by_need c.in_ok-rest.ensures.takes (start (g.looping c.args.within.locals.now guard) c.args.tokens.now))))

pub turns-returns-clause-shorter : goal.turns-returns-clause-shorter
turns-returns-clause-shorter t c = less (less_end c.in_ok-rest.ensures.shorter c.in_ok-all.ensures.shorter) c.in_ok-body.ensures.shorter

pub block-returns-in_err-rest-clause-reads : goal.block-returns-in_err-rest-clause-reads
block-returns-in_err-rest-clause-reads t c =
    token_error block_of _ _ c.from_residual.ensures.1 (start (g.rule (g.Block c.args.within.locals.now)) c.args.tokens.now) c.in_err-rest.ensures.takes

pub block-returns-in_err-all-clause-reads : goal.block-returns-in_err-all-clause-reads
block-returns-in_err-all-clause-reads t c =
    part_error block_of _ _ c.from_residual-in_err-all.ensures.1 (by_need c.in_ok-rest.ensures.takes (start (g.rule (g.Block c.args.within.locals.now)) c.args.tokens.now)) c.in_err-all.ensures.reads

pub block-returns-clause-reads : goal.block-returns-clause-reads
block-returns-clause-reads t c =
    whole_as (by_part c.in_ok-all.ensures.reads (by_need c.in_ok-rest.ensures.takes (start (g.rule (g.Block c.args.within.locals.now)) c.args.tokens.now))) (wstmts_of-map c.in_ok-all.all.items)

pub block-returns-clause-shorter : goal.block-returns-clause-shorter
block-returns-clause-shorter t c = less c.in_ok-rest.ensures.shorter c.in_ok-all.ensures.shorter

pub otherwise-returns-in_default-clause-reads : goal.otherwise-returns-in_default-clause-reads
otherwise-returns-in_default-clause-reads t c =
    whole_as (by_other c.in_default.ensures.eats (start (g.rule (g.Else c.args.within.locals.now)) c.args.tokens.now)) (ap wstmts_of c.new-none.ensures.items)

pub otherwise-returns-clause-reads : goal.otherwise-returns-clause-reads
otherwise-returns-clause-reads t c =
    pass_on block_of _ (tail (by_token c.in-Some.ensures.eats (start (g.rule (g.Else c.args.within.locals.now)) c.args.tokens.now))) c.block.ensures.reads

pub otherwise-returns-clause-shorter : goal.otherwise-returns-clause-shorter
otherwise-returns-clause-shorter t c = no_more_on _ c.block.result c.in-Some.ensures.shorter c.block.ensures.shorter
