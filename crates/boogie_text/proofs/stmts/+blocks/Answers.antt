use Rattle.std.proofs.Common.{ap, arith, refl, map, []}
use Rattle.boogie_tree.specs.Whole.{stmt_of, stmts_of}
use Rattle.boogie_tree.proofs.WholeLaws.{stmt_of-If, stmt_of-Either, stmts_of-map}
use Rattle.boogie_grammar.specs.Tests as v
use Rattle.boogie_grammar.specs.Grammar as g
use Rattle.boogie_grammar.proofs.Reading.{boogie_steps}
use Rattle.grammar.proofs.Pushed.{pushed_more}
use Rattle.boogie_grammar.proofs.EatLaws.{by_variable, by_no_variable}
use Rattle.boogie_text.proofs.StmtLaws.{no_havoc, havoc_next, havoc_refuses}
use Rattle.boogie_text.specs.StmtView.{all_stmts_of, block_of, unpicked, picked}
use Rattle.grammar.proofs.LessLaws.{less, less_end, end_less, less_on, no_more_on}
use Rattle.boogie_text.proofs.stmts.+blocks.Goals as goal
open boogie_steps use {start, by_need, by_token, by_other, by_part, whole, error_as, token_error, part_error, tail, pass_on, whole_as, goes_at, goes_then}

pub statements-loop-after-init : goal.statements-loop-after-init
statements-loop-after-init t c =
    record { shorter = omega arith; goes = goes_at v.stmts (λ ss. g.rule (g.Statements c.args.locals.now ss)) (ap (map stmt_of) c.new-all.ensures.items) (start (g.rule (g.Statements c.args.locals.now [])) c.args.tokens.now) }

pub statements-returns-in-Some-clause-reads : goal.statements-returns-in-Some-clause-reads
statements-returns-in-Some-clause-reads t c =
    whole (by_token c.in-Some.ensures.eats c.loop-after.invariant.goes)

pub statements-returns-in_err-next-clause-reads : goal.statements-returns-in_err-next-clause-reads
statements-returns-in_err-next-clause-reads t c =
    part_error all_stmts_of _ _ c.from_residual.ensures.1 (by_other c.in_default.ensures.eats c.loop-after.invariant.goes) c.in_err-next.ensures.reads

pub statements-loop-after-preserved : goal.statements-loop-after-preserved
statements-loop-after-preserved t c =
    record { shorter = omega (arith, c.in_ok-next.ensures.shorter, c.loop-after.invariant.shorter); goes = goes_at v.stmts (λ ss. g.rule (g.Statements c.args.locals.now ss)) (pushed_more stmt_of _ c.in_ok-all.ensures refl) (tail (by_part c.in_ok-next.ensures.reads (by_other c.in_default.ensures.eats c.loop-after.invariant.goes))) }

pub statement-returns-in-Some-clause-reads : goal.statement-returns-in-Some-clause-reads
statement-returns-in-Some-clause-reads t c =
    pass_on stmt_of _ (by_token c.in-Some.ensures.eats (start (g.rule (g.Statement c.args.locals.now)) c.args.tokens.now)) c.assumption.ensures.reads

pub statement-returns-in-Some-eat_word-clause-reads : goal.statement-returns-in-Some-eat_word-clause-reads
statement-returns-in-Some-eat_word-clause-reads t c =
    pass_on stmt_of _ (by_token c.in-Some-eat_word.ensures.eats (by_other c.in_default.ensures.eats (start (g.rule (g.Statement c.args.locals.now)) c.args.tokens.now))) c.assertion.ensures.reads

pub statement-returns-in_err-i-clause-reads : goal.statement-returns-in_err-i-clause-reads
statement-returns-in_err-i-clause-reads t c =
    error_as stmt_of _ _ c.from_residual.ensures.1 (λ z f. (by_other c.in_default-eat_word.ensures.eats (by_other c.in_default.ensures.eats (start (g.rule (g.Statement c.args.locals.now)) c.args.tokens.now))).fails z f) (havoc_refuses c.args.locals.now _ _ c.in_err-i.ensures.eats)

pub statement-returns-in_err-after-clause-reads : goal.statement-returns-in_err-after-clause-reads
statement-returns-in_err-after-clause-reads t c =
    token_error stmt_of _ _ c.from_residual-in_err-after.ensures.1 (goes_then (by_other c.in_default-eat_word.ensures.eats (by_other c.in_default.ensures.eats (start (g.rule (g.Statement c.args.locals.now)) c.args.tokens.now))) (havoc_next c.args.locals.now (rw c.in-Some-2.is at c.in_ok-i.ensures.eats))) c.in_err-after.ensures.takes

pub statement-returns-in-Some-2-clause-reads : goal.statement-returns-in-Some-2-clause-reads
statement-returns-in-Some-2-clause-reads t c =
    whole (by_need c.in_ok-after.ensures.takes (goes_then (by_other c.in_default-eat_word.ensures.eats (by_other c.in_default.ensures.eats (start (g.rule (g.Statement c.args.locals.now)) c.args.tokens.now))) (havoc_next c.args.locals.now (rw c.in-Some-2.is at c.in_ok-i.ensures.eats))))

pub statement-returns-in-Some-eat_variable-clause-reads : goal.statement-returns-in-Some-eat_variable-clause-reads
statement-returns-in-Some-eat_variable-clause-reads t c =
    pass_on stmt_of _ (by_variable (λ i. g.assignment c.args.locals.now i) (g.conditional c.args.locals.now) {names = c.args.locals.now} c.in-Some-eat_variable.ensures.eats (goes_then (by_other c.in_default-eat_word.ensures.eats (by_other c.in_default.ensures.eats (start (g.rule (g.Statement c.args.locals.now)) c.args.tokens.now))) (no_havoc c.args.locals.now (rw c.in_default-2.is at c.in_ok-i.ensures.eats)))) c.assignment.ensures.reads

pub statement-returns-clause-reads : goal.statement-returns-clause-reads
statement-returns-clause-reads t c =
    pass_on stmt_of _ (by_no_variable (λ i. g.assignment c.args.locals.now i) (g.conditional c.args.locals.now) {names = c.args.locals.now} c.in_default-eat_variable.ensures.eats (goes_then (by_other c.in_default-eat_word.ensures.eats (by_other c.in_default.ensures.eats (start (g.rule (g.Statement c.args.locals.now)) c.args.tokens.now))) (no_havoc c.args.locals.now (rw c.in_default-2.is at c.in_ok-i.ensures.eats)))) c.conditional.ensures.reads

pub conditional-returns-in_err-rest-clause-reads : goal.conditional-returns-in_err-rest-clause-reads
conditional-returns-in_err-rest-clause-reads t c =
    token_error stmt_of _ _ c.from_residual.ensures.1 (start (g.conditional c.args.locals.now) c.args.tokens.now) c.in_err-rest.ensures.takes

pub conditional-returns-in_err-rest-2-clause-reads : goal.conditional-returns-in_err-rest-2-clause-reads
conditional-returns-in_err-rest-2-clause-reads t c =
    token_error stmt_of _ _ c.from_residual-in_err-rest-2.ensures.1 (by_need c.in_ok-rest.ensures.takes (start (g.conditional c.args.locals.now) c.args.tokens.now)) c.in_err-rest-2.ensures.takes

pub conditional-returns-in-Some-clause-reads : goal.conditional-returns-in-Some-clause-reads
conditional-returns-in-Some-clause-reads t c =
    pass_on stmt_of _ (by_token c.in-Some.ensures.eats (by_need c.in_ok-rest-2.ensures.takes (by_need c.in_ok-rest.ensures.takes (start (g.conditional c.args.locals.now) c.args.tokens.now)))) c.either.ensures.reads

pub conditional-returns-clause-reads : goal.conditional-returns-clause-reads
conditional-returns-clause-reads t c =
    pass_on stmt_of _ (by_other c.in_default.ensures.eats (by_need c.in_ok-rest-2.ensures.takes (by_need c.in_ok-rest.ensures.takes (start (g.conditional c.args.locals.now) c.args.tokens.now)))) c.choice.ensures.reads

pub either-returns-in_err-rest-clause-reads : goal.either-returns-in_err-rest-clause-reads
either-returns-in_err-rest-clause-reads t c =
    token_error stmt_of _ _ c.from_residual.ensures.1 (start (unpicked c.args.locals.now) c.args.tokens.now) c.in_err-rest.ensures.takes

pub either-returns-in_err-first-clause-reads : goal.either-returns-in_err-first-clause-reads
either-returns-in_err-first-clause-reads t c =
    part_error stmt_of _ _ c.from_residual-in_err-first.ensures.1 (by_need c.in_ok-rest.ensures.takes (start (unpicked c.args.locals.now) c.args.tokens.now)) c.in_err-first.ensures.reads

pub either-returns-in_err-second-clause-reads : goal.either-returns-in_err-second-clause-reads
either-returns-in_err-second-clause-reads t c =
    part_error stmt_of _ _ c.from_residual-in_err-second.ensures.1 (by_part c.in_ok-first.ensures.reads (by_need c.in_ok-rest.ensures.takes (start (unpicked c.args.locals.now) c.args.tokens.now))) c.in_err-second.ensures.reads

pub either-returns-clause-reads : goal.either-returns-clause-reads
either-returns-clause-reads t c =
    whole_as (by_part c.in_ok-second.ensures.reads (by_part c.in_ok-first.ensures.reads (by_need c.in_ok-rest.ensures.takes (start (unpicked c.args.locals.now) c.args.tokens.now)))) (stmt_of-Either c.in_ok-first.first c.in_ok-second.second)

pub choice-returns-in_err-condition-clause-reads : goal.choice-returns-in_err-condition-clause-reads
choice-returns-in_err-condition-clause-reads t c =
    part_error stmt_of _ _ c.from_residual.ensures.1 (start (picked c.args.locals.now) c.args.tokens.now) c.in_err-condition.ensures.reads

pub choice-returns-in_err-rest-clause-reads : goal.choice-returns-in_err-rest-clause-reads
choice-returns-in_err-rest-clause-reads t c =
    token_error stmt_of _ _ c.from_residual-in_err-rest.ensures.1 (by_part c.in_ok-condition.ensures.reads (start (picked c.args.locals.now) c.args.tokens.now)) c.in_err-rest.ensures.takes

pub choice-returns-in_err-first-clause-reads : goal.choice-returns-in_err-first-clause-reads
choice-returns-in_err-first-clause-reads t c =
    part_error stmt_of _ _ c.from_residual-in_err-first.ensures.1 (by_need c.in_ok-rest.ensures.takes (by_part c.in_ok-condition.ensures.reads (start (picked c.args.locals.now) c.args.tokens.now))) c.in_err-first.ensures.reads

pub choice-returns-in_err-second-clause-reads : goal.choice-returns-in_err-second-clause-reads
choice-returns-in_err-second-clause-reads t c =
    part_error stmt_of _ _ c.from_residual-in_err-second.ensures.1 (by_part c.in_ok-first.ensures.reads (by_need c.in_ok-rest.ensures.takes (by_part c.in_ok-condition.ensures.reads (start (picked c.args.locals.now) c.args.tokens.now)))) c.in_err-second.ensures.reads

pub choice-returns-clause-reads : goal.choice-returns-clause-reads
choice-returns-clause-reads t c =
    whole_as (by_part c.in_ok-second.ensures.reads (by_part c.in_ok-first.ensures.reads (by_need c.in_ok-rest.ensures.takes (by_part c.in_ok-condition.ensures.reads (start (picked c.args.locals.now) c.args.tokens.now))))) (stmt_of-If c.in_ok-condition.condition c.in_ok-first.first c.in_ok-second.second)

pub block-returns-in_err-rest-clause-reads : goal.block-returns-in_err-rest-clause-reads
block-returns-in_err-rest-clause-reads t c =
    token_error block_of _ _ c.from_residual.ensures.1 (start (g.rule (g.Block c.args.locals.now)) c.args.tokens.now) c.in_err-rest.ensures.takes

pub block-returns-in_err-all-clause-reads : goal.block-returns-in_err-all-clause-reads
block-returns-in_err-all-clause-reads t c =
    part_error block_of _ _ c.from_residual-in_err-all.ensures.1 (by_need c.in_ok-rest.ensures.takes (start (g.rule (g.Block c.args.locals.now)) c.args.tokens.now)) c.in_err-all.ensures.reads

pub block-returns-clause-reads : goal.block-returns-clause-reads
block-returns-clause-reads t c =
    whole_as (by_part c.in_ok-all.ensures.reads (by_need c.in_ok-rest.ensures.takes (start (g.rule (g.Block c.args.locals.now)) c.args.tokens.now))) (stmts_of-map c.in_ok-all.all.items)

pub otherwise-returns-in_default-clause-reads : goal.otherwise-returns-in_default-clause-reads
otherwise-returns-in_default-clause-reads t c =
    whole_as (by_other c.in_default.ensures.eats (start (g.rule (g.Else c.args.locals.now)) c.args.tokens.now)) (ap stmts_of c.new-none.ensures.items)

pub otherwise-returns-clause-reads : goal.otherwise-returns-clause-reads
otherwise-returns-clause-reads t c =
    pass_on block_of _ (tail (by_token c.in-Some.ensures.eats (start (g.rule (g.Else c.args.locals.now)) c.args.tokens.now))) c.block.ensures.reads

-- the tokens that are left

pub statements-returns-in-Some-clause-shorter : goal.statements-returns-in-Some-clause-shorter
statements-returns-in-Some-clause-shorter t c = end_less c.loop-after.invariant.shorter c.in-Some.ensures.shorter

pub statement-returns-in-Some-clause-shorter : goal.statement-returns-in-Some-clause-shorter
statement-returns-in-Some-clause-shorter t c = less_on _ c.assumption.result c.in-Some.ensures.shorter c.assumption.ensures.shorter

pub statement-returns-in-Some-eat_word-clause-shorter : goal.statement-returns-in-Some-eat_word-clause-shorter
statement-returns-in-Some-eat_word-clause-shorter t c = less_on _ c.assertion.result c.in-Some-eat_word.ensures.shorter c.assertion.ensures.shorter

pub statement-returns-in-Some-2-clause-shorter : goal.statement-returns-in-Some-2-clause-shorter
statement-returns-in-Some-2-clause-shorter t c = less (rw c.in-Some-2.is at c.in_ok-i.ensures.shorter) c.in_ok-after.ensures.shorter

pub statement-returns-in-Some-eat_variable-clause-shorter : goal.statement-returns-in-Some-eat_variable-clause-shorter
statement-returns-in-Some-eat_variable-clause-shorter t c = less_on _ c.assignment.result c.in-Some-eat_variable.ensures.shorter c.assignment.ensures.shorter

pub statement-returns-clause-shorter : goal.statement-returns-clause-shorter
statement-returns-clause-shorter t c = c.conditional.ensures.shorter

pub conditional-returns-in-Some-clause-shorter : goal.conditional-returns-in-Some-clause-shorter
conditional-returns-in-Some-clause-shorter t c = less_on _ c.either.result (less (less c.in_ok-rest.ensures.shorter c.in_ok-rest-2.ensures.shorter) c.in-Some.ensures.shorter) c.either.ensures.shorter

pub conditional-returns-clause-shorter : goal.conditional-returns-clause-shorter
conditional-returns-clause-shorter t c = less_on _ c.choice.result (less c.in_ok-rest.ensures.shorter c.in_ok-rest-2.ensures.shorter) c.choice.ensures.shorter

pub either-returns-clause-shorter : goal.either-returns-clause-shorter
either-returns-clause-shorter t c = less_end (less c.in_ok-rest.ensures.shorter c.in_ok-first.ensures.shorter) c.in_ok-second.ensures.shorter

pub choice-returns-clause-shorter : goal.choice-returns-clause-shorter
choice-returns-clause-shorter t c = less_end (less (less c.in_ok-condition.ensures.shorter c.in_ok-rest.ensures.shorter) c.in_ok-first.ensures.shorter) c.in_ok-second.ensures.shorter

pub block-returns-clause-shorter : goal.block-returns-clause-shorter
block-returns-clause-shorter t c = less c.in_ok-rest.ensures.shorter c.in_ok-all.ensures.shorter

pub otherwise-returns-clause-shorter : goal.otherwise-returns-clause-shorter
otherwise-returns-clause-shorter t c = no_more_on _ c.block.result c.in-Some.ensures.shorter c.block.ensures.shorter
