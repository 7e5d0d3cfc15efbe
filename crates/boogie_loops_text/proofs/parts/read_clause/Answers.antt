use Rattle.boogie_loops_grammar.specs.Grammar as g
use Rattle.boogie_loops_text.specs.View.{ReadsClause}
use Rattle.boogie_loops_grammar.proofs.Reading.{wide_steps}
use Rattle.boogie_loops_text.proofs.Steps.{by_need, by_old, at_error, token_refuses, old_refuses, rest_refuses}
use Rattle.grammar.proofs.LessLaws.{less}
use Rattle.boogie_loops_text.proofs.WideStmts.{clause_rest}
use Rattle.boogie_loops_text.proofs.parts.read_clause.Goals as goal
open wide_steps use {start, goes_then}

pub returns-in_err-label-clause-reads : goal.returns-in_err-label-clause-reads
returns-in_err-label-clause-reads c =
    at_error (ReadsClause c.args.within.locals.now c.args.tokens.now) _ _ c.from_residual.ensures.1 (λ s go. rest_refuses _ (start (g.a_clause c.args.within.locals.now go) c.args.tokens.now) (c.in_err-label.ensures.reads s (clause_rest c.args.within.locals.now go)))

pub returns-in_err-e-clause-reads : goal.returns-in_err-e-clause-reads
returns-in_err-e-clause-reads c =
    at_error (ReadsClause c.args.within.locals.now c.args.tokens.now) _ _ c.from_residual-in_err-e.ensures.1 (λ s go. old_refuses _ (goes_then (start (g.a_clause c.args.within.locals.now go) c.args.tokens.now) (c.in_ok-label.ensures.reads s (clause_rest c.args.within.locals.now go))) c.in_err-e.ensures.reads)

pub returns-in_err-after-clause-reads : goal.returns-in_err-after-clause-reads
returns-in_err-after-clause-reads c =
    at_error (ReadsClause c.args.within.locals.now c.args.tokens.now) _ _ c.from_residual-in_err-after.ensures.1 (λ s go. token_refuses _ (by_old c.in_ok-e.ensures.reads (goes_then (start (g.a_clause c.args.within.locals.now go) c.args.tokens.now) (c.in_ok-label.ensures.reads s (clause_rest c.args.within.locals.now go)))) c.in_err-after.ensures.takes)

pub returns-clause-reads : goal.returns-clause-reads
returns-clause-reads c =
    λ s go. (by_need c.in_ok-after.ensures.takes (by_old c.in_ok-e.ensures.reads (goes_then (start (g.a_clause c.args.within.locals.now go) c.args.tokens.now) (c.in_ok-label.ensures.reads s (clause_rest c.args.within.locals.now go)))))

pub returns-clause-shorter : goal.returns-clause-shorter
returns-clause-shorter c = less (less c.in_ok-label.ensures.shorter c.in_ok-e.ensures.shorter) c.in_ok-after.ensures.shorter
