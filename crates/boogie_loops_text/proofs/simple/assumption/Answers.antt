use Rattle.boogie_loops.specs.View.{wstmt_of}
use Rattle.boogie_loops_text.specs.View.{assuming}
use Rattle.boogie_loops_grammar.proofs.Reading.{wide_steps}
use Rattle.boogie_loops_text.proofs.Steps.{by_need, by_old, old_error, token_error}
use Rattle.grammar.proofs.LessLaws.{less}
use Rattle.boogie_loops_text.proofs.simple.assumption.Goals as goal
open wide_steps use {start, whole}

pub returns-in_err-claim-clause-reads : goal.returns-in_err-claim-clause-reads
returns-in_err-claim-clause-reads c =
    old_error wstmt_of _ _ c.from_residual.ensures.1 (start (assuming c.args.within.locals.now) c.args.tokens.now) c.in_err-claim.ensures.reads

pub returns-in_err-after-clause-reads : goal.returns-in_err-after-clause-reads
returns-in_err-after-clause-reads c =
    token_error wstmt_of _ _ c.from_residual-in_err-after.ensures.1 (by_old c.in_ok-claim.ensures.reads (start (assuming c.args.within.locals.now) c.args.tokens.now)) c.in_err-after.ensures.takes

pub returns-clause-reads : goal.returns-clause-reads
returns-clause-reads c =
    whole (by_need c.in_ok-after.ensures.takes (by_old c.in_ok-claim.ensures.reads (start (assuming c.args.within.locals.now) c.args.tokens.now)))

pub returns-clause-shorter : goal.returns-clause-shorter
returns-clause-shorter c = less c.in_ok-claim.ensures.shorter c.in_ok-after.ensures.shorter
