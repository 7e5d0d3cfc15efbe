use Rattle.boogie_loops_grammar.specs.Grammar as g
use Rattle.boogie_loops_grammar.proofs.Reading.{wide_steps}
use Rattle.boogie_loops_text.proofs.Steps.{by_need, by_noted, at_error, token_refuses, noted_refuses_in, rest_refuses}
use Rattle.grammar.proofs.LessLaws.{less}
use Rattle.boogie_loops_text.specs.ClauseView.{ReadsBound}
use Rattle.boogie_loops_text.proofs.WideStmts.{bound_rest}
use Rattle.boogie_loops_text.proofs.bound.bound_clause.Goals as goal
open wide_steps use {start, whole, goes_then}

pub returns-in_err-label-clause-reads : goal.returns-in_err-label-clause-reads
returns-in_err-label-clause-reads c =
    at_error (ReadsBound c.args.within.locals.now _ _ c.args.tokens.now) _ _ c.from_residual.ensures.1 (rest_refuses _ (start (g.rule (g.BoundClause c.args.within.locals.now)) c.args.tokens.now) (c.in_err-label.ensures.reads _ (bound_rest c.args.within.locals.now)))

pub returns-in_err-e-clause-reads : goal.returns-in_err-e-clause-reads
returns-in_err-e-clause-reads c =
    at_error (ReadsBound c.args.within.locals.now _ _ c.args.tokens.now) _ _ c.from_residual-in_err-e.ensures.1 (noted_refuses_in (g.scope c.args.within.locals.now) _ (goes_then (start (g.rule (g.BoundClause c.args.within.locals.now)) c.args.tokens.now) (c.in_ok-label.ensures.reads _ (bound_rest c.args.within.locals.now))) c.in_err-e.ensures.reads)

pub returns-in_err-after-clause-reads : goal.returns-in_err-after-clause-reads
returns-in_err-after-clause-reads c =
    at_error (ReadsBound c.args.within.locals.now _ _ c.args.tokens.now) _ _ c.from_residual-in_err-after.ensures.1 (token_refuses _ (by_noted (g.scope c.args.within.locals.now) c.in_ok-e.ensures.reads (goes_then (start (g.rule (g.BoundClause c.args.within.locals.now)) c.args.tokens.now) (c.in_ok-label.ensures.reads _ (bound_rest c.args.within.locals.now)))) c.in_err-after.ensures.takes)

pub returns-clause-reads : goal.returns-clause-reads
returns-clause-reads c =
    (_, whole (by_need c.in_ok-after.ensures.takes (by_noted (g.scope c.args.within.locals.now) c.in_ok-e.ensures.reads (goes_then (start (g.rule (g.BoundClause c.args.within.locals.now)) c.args.tokens.now) (c.in_ok-label.ensures.reads _ (bound_rest c.args.within.locals.now))))), c.in_ok-push_bound.ensures)

pub returns-clause-shorter : goal.returns-clause-shorter
returns-clause-shorter c = less (less c.in_ok-label.ensures.shorter c.in_ok-e.ensures.shorter) c.in_ok-after.ensures.shorter
