use Rattle.boogie_loops.specs.View.{wstmt_of}
use Rattle.boogie_loops_grammar.specs.Grammar as g
use Rattle.boogie_loops_grammar.proofs.Reading.{wide_steps}
use Rattle.boogie_loops_text.proofs.Steps.{by_need, by_token, by_other, by_old, old_error, token_error}
use Rattle.grammar.proofs.LessLaws.{less}
use Rattle.boogie_loops_text.proofs.WideStmts.{wstmt_of-Put}
use Rattle.boogie_loops_text.proofs.simple.assignment.Goals as goal
open wide_steps use {start, whole, whole_as}

pub returns-in_err-indices-clause-reads : goal.returns-in_err-indices-clause-reads
returns-in_err-indices-clause-reads c =
    old_error wstmt_of _ _ c.from_residual.ensures.1 (by_token c.in-Some.ensures.eats (start (g.assignment c.args.within.locals.now c.args.i) c.args.tokens.now)) c.in_err-indices.ensures.reads

pub returns-in_err-rest-clause-reads : goal.returns-in_err-rest-clause-reads
returns-in_err-rest-clause-reads c =
    token_error wstmt_of _ _ c.from_residual-in_err-rest.ensures.1 (by_old c.in_ok-indices.ensures.reads (by_token c.in-Some.ensures.eats (start (g.assignment c.args.within.locals.now c.args.i) c.args.tokens.now))) c.in_err-rest.ensures.takes

pub returns-in_err-value-clause-reads : goal.returns-in_err-value-clause-reads
returns-in_err-value-clause-reads c =
    old_error wstmt_of _ _ c.from_residual-in_err-value.ensures.1 (by_need c.in_ok-rest.ensures.takes (by_old c.in_ok-indices.ensures.reads (by_token c.in-Some.ensures.eats (start (g.assignment c.args.within.locals.now c.args.i) c.args.tokens.now)))) c.in_err-value.ensures.reads

pub returns-in_err-after-clause-reads : goal.returns-in_err-after-clause-reads
returns-in_err-after-clause-reads c =
    token_error wstmt_of _ _ c.from_residual-in_err-after.ensures.1 (by_old c.in_ok-value.ensures.reads (by_need c.in_ok-rest.ensures.takes (by_old c.in_ok-indices.ensures.reads (by_token c.in-Some.ensures.eats (start (g.assignment c.args.within.locals.now c.args.i) c.args.tokens.now))))) c.in_err-after.ensures.takes

pub returns-in-Some-clause-reads : goal.returns-in-Some-clause-reads
returns-in-Some-clause-reads c =
    whole_as (by_need c.in_ok-after.ensures.takes (by_old c.in_ok-value.ensures.reads (by_need c.in_ok-rest.ensures.takes (by_old c.in_ok-indices.ensures.reads (by_token c.in-Some.ensures.eats (start (g.assignment c.args.within.locals.now c.args.i) c.args.tokens.now)))))) (wstmt_of-Put c.args.i c.in_ok-indices.indices c.in_ok-value.value)

pub returns-in-Some-clause-shorter : goal.returns-in-Some-clause-shorter
returns-in-Some-clause-shorter c = less (less (less (less c.in-Some.ensures.shorter c.in_ok-indices.ensures.shorter) c.in_ok-rest.ensures.shorter) c.in_ok-value.ensures.shorter) c.in_ok-after.ensures.shorter

pub returns-in_err-rest-2-clause-reads : goal.returns-in_err-rest-2-clause-reads
returns-in_err-rest-2-clause-reads c =
    token_error wstmt_of _ _ c.from_residual-in_err-rest-2.ensures.1 (by_other c.in_default.ensures.eats (start (g.assignment c.args.within.locals.now c.args.i) c.args.tokens.now)) c.in_err-rest-2.ensures.takes

pub returns-in_err-value-2-clause-reads : goal.returns-in_err-value-2-clause-reads
returns-in_err-value-2-clause-reads c =
    old_error wstmt_of _ _ c.from_residual-in_err-value-2.ensures.1 (by_need c.in_ok-rest-2.ensures.takes (by_other c.in_default.ensures.eats (start (g.assignment c.args.within.locals.now c.args.i) c.args.tokens.now))) c.in_err-value-2.ensures.reads

pub returns-in_err-after-2-clause-reads : goal.returns-in_err-after-2-clause-reads
returns-in_err-after-2-clause-reads c =
    token_error wstmt_of _ _ c.from_residual-in_err-after-2.ensures.1 (by_old c.in_ok-value-2.ensures.reads (by_need c.in_ok-rest-2.ensures.takes (by_other c.in_default.ensures.eats (start (g.assignment c.args.within.locals.now c.args.i) c.args.tokens.now)))) c.in_err-after-2.ensures.takes

pub returns-clause-reads : goal.returns-clause-reads
returns-clause-reads c =
    whole (by_need c.in_ok-after-2.ensures.takes (by_old c.in_ok-value-2.ensures.reads (by_need c.in_ok-rest-2.ensures.takes (by_other c.in_default.ensures.eats (start (g.assignment c.args.within.locals.now c.args.i) c.args.tokens.now)))))

pub returns-clause-shorter : goal.returns-clause-shorter
returns-clause-shorter c = less (less c.in_ok-rest-2.ensures.shorter c.in_ok-value-2.ensures.shorter) c.in_ok-after-2.ensures.shorter
