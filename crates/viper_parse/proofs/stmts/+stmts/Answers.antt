use Rattle.std.proofs.Common.{refl, ap, map, [], arith}
use Rattle.viper_syntax.specs.Stmt as s
use Rattle.viper_syntax.specs.View.{term_of, stmt_of, arm_of, block_of}
use Rattle.viper_grammar.specs.Tests as v
use Rattle.viper_grammar.specs.Grammar as g
use Rattle.viper_parse.specs.View.{stmts_in}
use Rattle.viper_grammar.proofs.Reading.{viper_steps}
use Rattle.grammar.proofs.Pushed.{pushed_first, pushed_more}
use Rattle.grammar.proofs.LessLaws.{less, less_end, end_less, less_on}
use Rattle.viper_parse.proofs.stmts.+stmts.Goals as goal
open viper_steps use {start, by_need, by_token, by_other, by_part, whole, part_error, token_error, tail, pass_on, whole_as, goes_at, goes_by}

pub statement-returns-in-Some-clause-reads : goal.statement-returns-in-Some-clause-reads
statement-returns-in-Some-clause-reads t c =
    pass_on stmt_of _ (tail (by_token c.in-Some.ensures.eats (start (g.rule g.Statement) c.args.tokens.now))) c.variable.ensures.reads

pub statement-returns-in_err-part-clause-reads : goal.statement-returns-in_err-part-clause-reads
statement-returns-in_err-part-clause-reads t c =
    part_error stmt_of _ _ c.from_residual.ensures.1 (by_token c.in-Some-eat_one_of.ensures.eats (by_other c.in_default.ensures.eats (start (g.rule g.Statement) c.args.tokens.now))) c.in_err-part.ensures.reads

pub statement-returns-in-Some-eat_one_of-clause-reads : goal.statement-returns-in-Some-eat_one_of-clause-reads
statement-returns-in-Some-eat_one_of-clause-reads t c =
    whole_as (by_part c.in_ok-part.ensures.reads (by_token c.in-Some-eat_one_of.ensures.eats (by_other c.in_default.ensures.eats (start (g.rule g.Statement) c.args.tokens.now)))) (ap (λ e. s.Check c.in-Some-eat_one_of.check.0 c.in-Some-eat_one_of.check.1 e) (ap term_of c.into_inner.ensures))

pub statement-returns-in_err-held-clause-reads : goal.statement-returns-in_err-held-clause-reads
statement-returns-in_err-held-clause-reads t c =
    part_error stmt_of _ _ c.from_residual-in_err-held.ensures.1 (by_token c.in-Some-eat_word.ensures.eats (by_other c.in_default-eat_one_of.ensures.eats (by_other c.in_default.ensures.eats (start (g.rule g.Statement) c.args.tokens.now)))) c.in_err-held.ensures.reads

pub statement-returns-in-Some-eat_word-clause-reads : goal.statement-returns-in-Some-eat_word-clause-reads
statement-returns-in-Some-eat_word-clause-reads t c =
    whole_as (by_part c.in_ok-held.ensures.reads (by_token c.in-Some-eat_word.ensures.eats (by_other c.in_default-eat_one_of.ensures.eats (by_other c.in_default.ensures.eats (start (g.rule g.Statement) c.args.tokens.now))))) (ap s.Fold c.fold.ensures)

pub statement-returns-in_err-held-2-clause-reads : goal.statement-returns-in_err-held-2-clause-reads
statement-returns-in_err-held-2-clause-reads t c =
    part_error stmt_of _ _ c.from_residual-in_err-held-2.ensures.1 (by_token c.in-Some-eat_word-2.ensures.eats (by_other c.in_default-eat_word.ensures.eats (by_other c.in_default-eat_one_of.ensures.eats (by_other c.in_default.ensures.eats (start (g.rule g.Statement) c.args.tokens.now))))) c.in_err-held-2.ensures.reads

pub statement-returns-in-Some-eat_word-2-clause-reads : goal.statement-returns-in-Some-eat_word-2-clause-reads
statement-returns-in-Some-eat_word-2-clause-reads t c =
    whole_as (by_part c.in_ok-held-2.ensures.reads (by_token c.in-Some-eat_word-2.ensures.eats (by_other c.in_default-eat_word.ensures.eats (by_other c.in_default-eat_one_of.ensures.eats (by_other c.in_default.ensures.eats (start (g.rule g.Statement) c.args.tokens.now)))))) (ap s.Unfold c.fold-in-Some-eat_word-2.ensures)

pub statement-returns-in-Some-eat_word-3-clause-reads : goal.statement-returns-in-Some-eat_word-3-clause-reads
statement-returns-in-Some-eat_word-3-clause-reads t c =
    pass_on stmt_of _ (by_token c.in-Some-eat_word-3.ensures.eats (by_other c.in_default-eat_word-2.ensures.eats (by_other c.in_default-eat_word.ensures.eats (by_other c.in_default-eat_one_of.ensures.eats (by_other c.in_default.ensures.eats (start (g.rule g.Statement) c.args.tokens.now)))))) c.branches.ensures.reads

pub statement-returns-in-Some-eat_word-4-clause-reads : goal.statement-returns-in-Some-eat_word-4-clause-reads
statement-returns-in-Some-eat_word-4-clause-reads t c =
    pass_on stmt_of _ (tail (by_token c.in-Some-eat_word-4.ensures.eats (by_other c.in_default-eat_word-3.ensures.eats (by_other c.in_default-eat_word-2.ensures.eats (by_other c.in_default-eat_word.ensures.eats (by_other c.in_default-eat_one_of.ensures.eats (by_other c.in_default.ensures.eats (start (g.rule g.Statement) c.args.tokens.now)))))))) c.while_loop.ensures.reads

pub statement-returns-in_err-named-clause-reads : goal.statement-returns-in_err-named-clause-reads
statement-returns-in_err-named-clause-reads t c =
    token_error stmt_of _ _ c.from_residual-in_err-named.ensures.1 (by_other c.in_default-eat_word-4.ensures.eats (by_other c.in_default-eat_word-3.ensures.eats (by_other c.in_default-eat_word-2.ensures.eats (by_other c.in_default-eat_word.ensures.eats (by_other c.in_default-eat_one_of.ensures.eats (by_other c.in_default.ensures.eats (start (g.rule g.Statement) c.args.tokens.now))))))) c.in_err-named.ensures.takes

pub statement-returns-clause-reads : goal.statement-returns-clause-reads
statement-returns-clause-reads t c =
    pass_on stmt_of _ (tail (by_need c.in_ok-named.ensures.takes (by_other c.in_default-eat_word-4.ensures.eats (by_other c.in_default-eat_word-3.ensures.eats (by_other c.in_default-eat_word-2.ensures.eats (by_other c.in_default-eat_word.ensures.eats (by_other c.in_default-eat_one_of.ensures.eats (by_other c.in_default.ensures.eats (start (g.rule g.Statement) c.args.tokens.now))))))))) c.after_name.ensures.reads

pub arm-returns-in_err-condition-clause-reads : goal.arm-returns-in_err-condition-clause-reads
arm-returns-in_err-condition-clause-reads t c =
    part_error arm_of _ _ c.from_residual.ensures.1 (start (g.rule (g.Arm c.args.at)) c.args.tokens.now) c.in_err-condition.ensures.reads

pub arm-returns-in_err-body-clause-reads : goal.arm-returns-in_err-body-clause-reads
arm-returns-in_err-body-clause-reads t c =
    part_error arm_of _ _ c.from_residual-in_err-body.ensures.1 (by_part c.in_ok-condition.ensures.reads (start (g.rule (g.Arm c.args.at)) c.args.tokens.now)) c.in_err-body.ensures.reads

pub arm-returns-clause-reads : goal.arm-returns-clause-reads
arm-returns-clause-reads t c =
    whole_as (by_part c.in_ok-body.ensures.reads (by_part c.in_ok-condition.ensures.reads (start (g.rule (g.Arm c.args.at)) c.args.tokens.now))) (ap (λ e. s.arm c.args.at e (block_of c.in_ok-body.body)) (ap term_of c.into_inner.ensures))

pub branches-returns-in_err-first-clause-reads : goal.branches-returns-in_err-first-clause-reads
branches-returns-in_err-first-clause-reads t c =
    part_error stmt_of _ _ c.from_residual.ensures.1 (start (g.branches c.args.at) c.args.tokens.now) c.in_err-first.ensures.reads

pub branches-loop-place-init : goal.branches-loop-place-init
branches-loop-place-init t c =
    record { shorter = c.in_ok-first.ensures.shorter; goes = goes_by (λ bs. g.rule (g.Arms bs)) (pushed_first arm_of c.new.ensures.items c.in_ok-all.ensures refl) (tail (by_part c.in_ok-first.ensures.reads (start (g.branches c.args.at) c.args.tokens.now))) }

pub branches-returns-in_err-next-clause-reads : goal.branches-returns-in_err-next-clause-reads
branches-returns-in_err-next-clause-reads t c =
    part_error stmt_of _ _ c.from_residual-in_err-next.ensures.1 (by_token c.in-Some.ensures.eats (c.loop-place.invariant.goes)) c.in_err-next.ensures.reads

pub branches-loop-place-preserved : goal.branches-loop-place-preserved
branches-loop-place-preserved t c =
    record { shorter = omega (arith, c.in-Some.ensures.shorter, c.in_ok-next.ensures.shorter); goes = goes_by (λ bs. g.rule (g.Arms bs)) (pushed_more arm_of _ c.in_ok-all-2.ensures refl) (tail (by_part c.in_ok-next.ensures.reads (by_token c.in-Some.ensures.eats (c.loop-place.invariant.goes)))) }

pub branches-returns-in_default-eat_word-clause-reads : goal.branches-returns-in_default-eat_word-clause-reads
branches-returns-in_default-eat_word-clause-reads t c =
    whole_as (by_other c.in_default-eat_word.ensures.eats (by_other c.in_default.ensures.eats (c.loop-place.invariant.goes))) c.conditional.ensures

pub branches-returns-in_err-last-clause-reads : goal.branches-returns-in_err-last-clause-reads
branches-returns-in_err-last-clause-reads t c =
    part_error stmt_of _ _ c.from_residual-in_err-last.ensures.1 (by_token c.in-Some-eat_word.ensures.eats (by_other c.in_default.ensures.eats (c.loop-place.invariant.goes))) c.in_err-last.ensures.reads

pub branches-returns-clause-reads : goal.branches-returns-clause-reads
branches-returns-clause-reads t c =
    whole_as (by_part c.in_ok-last.ensures.reads (by_token c.in-Some-eat_word.ensures.eats (by_other c.in_default.ensures.eats (c.loop-place.invariant.goes)))) c.conditional-2.ensures

pub while_loop-returns-in_err-condition-clause-reads : goal.while_loop-returns-in_err-condition-clause-reads
while_loop-returns-in_err-condition-clause-reads t c =
    part_error stmt_of _ _ c.from_residual.ensures.1 (start (g.rule (g.WhileLoop c.args.at)) c.args.tokens.now) c.in_err-condition.ensures.reads

pub while_loop-returns-in_err-conditions-clause-reads : goal.while_loop-returns-in_err-conditions-clause-reads
while_loop-returns-in_err-conditions-clause-reads t c =
    part_error stmt_of _ _ c.from_residual-in_err-conditions.ensures.1 (by_part c.in_ok-condition.ensures.reads (start (g.rule (g.WhileLoop c.args.at)) c.args.tokens.now)) c.in_err-conditions.ensures.reads

pub while_loop-returns-in_err-body-clause-reads : goal.while_loop-returns-in_err-body-clause-reads
while_loop-returns-in_err-body-clause-reads t c =
    part_error stmt_of _ _ c.from_residual-in_err-body.ensures.1 (by_part c.in_ok-conditions.ensures.reads (by_part c.in_ok-condition.ensures.reads (start (g.rule (g.WhileLoop c.args.at)) c.args.tokens.now))) c.in_err-body.ensures.reads

pub while_loop-returns-clause-reads : goal.while_loop-returns-clause-reads
while_loop-returns-clause-reads t c =
    whole_as (by_part c.in_ok-body.ensures.reads (by_part c.in_ok-conditions.ensures.reads (by_part c.in_ok-condition.ensures.reads (start (g.rule (g.WhileLoop c.args.at)) c.args.tokens.now)))) c.iteration.ensures

pub block-returns-in_err-at-clause-reads : goal.block-returns-in_err-at-clause-reads
block-returns-in_err-at-clause-reads t c =
    token_error block_of _ _ c.from_residual.ensures.1 (start (g.rule g.Block) c.args.tokens.now) c.in_err-at.ensures.takes

pub block-returns-in_err-stmts-clause-reads : goal.block-returns-in_err-stmts-clause-reads
block-returns-in_err-stmts-clause-reads t c =
    part_error block_of _ _ c.from_residual-in_err-stmts.ensures.1 (by_need c.in_ok-at.ensures.takes (start (g.rule g.Block) c.args.tokens.now)) c.in_err-stmts.ensures.reads

pub block-returns-clause-reads : goal.block-returns-clause-reads
block-returns-clause-reads t c =
    whole_as (by_part c.in_ok-stmts.ensures.reads (by_need c.in_ok-at.ensures.takes (start (g.rule g.Block) c.args.tokens.now))) c.braced.ensures

pub statements-each-init : goal.statements-each-init
statements-each-init t c =
    record { shorter = omega arith; goes = goes_at v.stmts (λ ss. g.rule (g.Statements ss)) (ap (map stmt_of) c.new-all.ensures.items) (start (g.rule (g.Statements [])) c.args.tokens.now) }

pub statements-returns-in-Some-clause-reads : goal.statements-returns-in-Some-clause-reads
statements-returns-in-Some-clause-reads t c =
    whole (by_token c.in-Some.ensures.eats (c.each.invariant.goes))

pub statements-returns-in_err-next-clause-reads : goal.statements-returns-in_err-next-clause-reads
statements-returns-in_err-next-clause-reads t c =
    part_error stmts_in _ _ c.from_residual.ensures.1 (by_other c.in_default.ensures.eats (c.each.invariant.goes)) c.in_err-next.ensures.reads

pub statements-each-preserved : goal.statements-each-preserved
statements-each-preserved t c =
    record { shorter = omega (arith, c.in_ok-next.ensures.shorter, c.semicolons-rest.ensures.shorter); goes = goes_at v.stmts (λ ss. g.rule (g.Statements ss)) (pushed_more stmt_of _ c.in_ok-all.ensures refl) (tail (by_part c.semicolons-rest.ensures.reads (by_part c.in_ok-next.ensures.reads (by_other c.in_default.ensures.eats (c.each.invariant.goes))))) }

-- the tokens that are left

pub statement-returns-in-Some-clause-shorter : goal.statement-returns-in-Some-clause-shorter
statement-returns-in-Some-clause-shorter t c = less_on _ c.variable.result c.in-Some.ensures.shorter c.variable.ensures.shorter

pub statement-returns-in-Some-eat_one_of-clause-shorter : goal.statement-returns-in-Some-eat_one_of-clause-shorter
statement-returns-in-Some-eat_one_of-clause-shorter t c = less c.in-Some-eat_one_of.ensures.shorter c.in_ok-part.ensures.shorter

pub statement-returns-in-Some-eat_word-clause-shorter : goal.statement-returns-in-Some-eat_word-clause-shorter
statement-returns-in-Some-eat_word-clause-shorter t c = less c.in-Some-eat_word.ensures.shorter c.in_ok-held.ensures.shorter

pub statement-returns-in-Some-eat_word-2-clause-shorter : goal.statement-returns-in-Some-eat_word-2-clause-shorter
statement-returns-in-Some-eat_word-2-clause-shorter t c = less c.in-Some-eat_word-2.ensures.shorter c.in_ok-held-2.ensures.shorter

pub statement-returns-in-Some-eat_word-3-clause-shorter : goal.statement-returns-in-Some-eat_word-3-clause-shorter
statement-returns-in-Some-eat_word-3-clause-shorter t c = less_on _ c.branches.result c.in-Some-eat_word-3.ensures.shorter c.branches.ensures.shorter

pub statement-returns-in-Some-eat_word-4-clause-shorter : goal.statement-returns-in-Some-eat_word-4-clause-shorter
statement-returns-in-Some-eat_word-4-clause-shorter t c = less_on _ c.while_loop.result c.in-Some-eat_word-4.ensures.shorter c.while_loop.ensures.shorter

pub statement-returns-clause-shorter : goal.statement-returns-clause-shorter
statement-returns-clause-shorter t c = less_on _ c.after_name.result c.in_ok-named.ensures.shorter c.after_name.ensures.shorter

pub arm-returns-clause-shorter : goal.arm-returns-clause-shorter
arm-returns-clause-shorter t c = less c.in_ok-condition.ensures.shorter c.in_ok-body.ensures.shorter

pub branches-returns-in_default-eat_word-clause-shorter : goal.branches-returns-in_default-eat_word-clause-shorter
branches-returns-in_default-eat_word-clause-shorter t c = c.loop-place.invariant.shorter

pub branches-returns-clause-shorter : goal.branches-returns-clause-shorter
branches-returns-clause-shorter t c = less (less c.loop-place.invariant.shorter c.in-Some-eat_word.ensures.shorter) c.in_ok-last.ensures.shorter

pub while_loop-returns-clause-shorter : goal.while_loop-returns-clause-shorter
while_loop-returns-clause-shorter t c = less (less_end c.in_ok-condition.ensures.shorter c.in_ok-conditions.ensures.shorter) c.in_ok-body.ensures.shorter

pub block-returns-clause-shorter : goal.block-returns-clause-shorter
block-returns-clause-shorter t c = less c.in_ok-at.ensures.shorter c.in_ok-stmts.ensures.shorter

pub statements-returns-in-Some-clause-shorter : goal.statements-returns-in-Some-clause-shorter
statements-returns-in-Some-clause-shorter t c = end_less c.each.invariant.shorter c.in-Some.ensures.shorter
