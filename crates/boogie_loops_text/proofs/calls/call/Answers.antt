use Rattle.std.proofs.Common.{[], refl}
use Rattle.boogie_loops.specs.View.{wstmt_of}
use Rattle.boogie_loops_grammar.specs.Grammar as g
use Rattle.boogie_loops_grammar.proofs.Reading.{wide_steps}
use Rattle.boogie_loops_text.proofs.Steps.{by_need, rest_error, token_error, by_variable, by_no_variable}
use Rattle.grammar.proofs.LessLaws.{less, less_on}
use Rattle.boogie_loops_text.proofs.WideStmts.{wstmt_of-Call, read_as, variable_within}
use Rattle.boogie_loops_text.proofs.calls.call.Goals as goal
open wide_steps use {start, pass_on}

pub returns-in-Some-clause-reads : goal.returns-in-Some-clause-reads
returns-in-Some-clause-reads c =
    pass_on wstmt_of _ (by_variable (λ i. g.targeted c.args.within.locals.now i) (g.a_name c.args.within.locals.now (λ x. g.called c.args.within.locals.now [] x)) {names = c.args.within.locals.now} c.in-Some.ensures.eats (start (g.call c.args.within.locals.now) c.args.tokens.now)) c.targeted.ensures.reads

pub returns-in-Some-clause-shorter : goal.returns-in-Some-clause-shorter
returns-in-Some-clause-shorter c = less_on _ c.targeted.result c.in-Some.ensures.shorter c.targeted.ensures.shorter

pub returns-in_err-name-clause-reads : goal.returns-in_err-name-clause-reads
returns-in_err-name-clause-reads c =
    token_error wstmt_of _ _ c.from_residual.ensures.1 (by_no_variable (λ i. g.targeted c.args.within.locals.now i) (g.a_name c.args.within.locals.now (λ x. g.called c.args.within.locals.now [] x)) {names = c.args.within.locals.now} c.in_default.ensures.eats (start (g.call c.args.within.locals.now) c.args.tokens.now)) c.in_err-name.ensures.takes

pub returns-in_err-rest-clause-reads : goal.returns-in_err-rest-clause-reads
returns-in_err-rest-clause-reads c =
    token_error wstmt_of _ _ c.from_residual-in_err-rest.ensures.1 (by_need c.in_ok-name.ensures.takes (by_no_variable (λ i. g.targeted c.args.within.locals.now i) (g.a_name c.args.within.locals.now (λ x. g.called c.args.within.locals.now [] x)) {names = c.args.within.locals.now} c.in_default.ensures.eats (start (g.call c.args.within.locals.now) c.args.tokens.now))) c.in_err-rest.ensures.takes

pub returns-in_err-arguments-clause-reads : goal.returns-in_err-arguments-clause-reads
returns-in_err-arguments-clause-reads c =
    rest_error wstmt_of _ _ c.from_residual-in_err-arguments.ensures.1 (by_need c.in_ok-rest.ensures.takes (by_need c.in_ok-name.ensures.takes (by_no_variable (λ i. g.targeted c.args.within.locals.now i) (g.a_name c.args.within.locals.now (λ x. g.called c.args.within.locals.now [] x)) {names = c.args.within.locals.now} c.in_default.ensures.eats (start (g.call c.args.within.locals.now) c.args.tokens.now)))) (c.in_err-arguments.ensures.reads [] c.in_ok-name.name)

pub returns-clause-reads : goal.returns-clause-reads
returns-clause-reads c =
    read_as (wstmt_of-Call c.new-none.result c.in_ok-name.name c.in_ok-arguments.arguments c.new-none.ensures.items refl) ((by_need c.in_ok-rest.ensures.takes (by_need c.in_ok-name.ensures.takes (by_no_variable (λ i. g.targeted c.args.within.locals.now i) (g.a_name c.args.within.locals.now (λ x. g.called c.args.within.locals.now [] x)) {names = c.args.within.locals.now} c.in_default.ensures.eats (start (g.call c.args.within.locals.now) c.args.tokens.now)))).reads _ _ (c.in_ok-arguments.ensures.reads [] c.in_ok-name.name))

pub returns-clause-shorter : goal.returns-clause-shorter
returns-clause-shorter c = less (less c.in_ok-name.ensures.shorter c.in_ok-rest.ensures.shorter) c.in_ok-arguments.ensures.shorter

pub targeted-requires : goal.targeted-requires
targeted-requires c = record { free = c.in-Some.ensures.eats.0; there = variable_within c.in-Some.ensures.eats }
