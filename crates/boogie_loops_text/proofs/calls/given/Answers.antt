use Rattle.boogie_loops_text.specs.View.{giving, call_of}
use Rattle.boogie_loops_grammar.proofs.Reading.{wide_steps}
use Rattle.boogie_loops_text.proofs.Steps.{by_need, by_part, part_error, token_error}
use Rattle.grammar.proofs.LessLaws.{less}
use Rattle.boogie_loops_text.proofs.calls.given.Goals as goal
open wide_steps use {start, whole}

pub returns-in_err-all-clause-reads : goal.returns-in_err-all-clause-reads
returns-in_err-all-clause-reads c =
    λ targets name. part_error (call_of targets name) _ _ c.from_residual.ensures.1 (start (giving c.args.within.locals.now targets name) c.args.tokens.now) c.in_err-all.ensures.reads

pub returns-in_err-after-clause-reads : goal.returns-in_err-after-clause-reads
returns-in_err-after-clause-reads c =
    λ targets name. token_error (call_of targets name) _ _ c.from_residual-in_err-after.ensures.1 (by_part c.in_ok-all.ensures.reads (start (giving c.args.within.locals.now targets name) c.args.tokens.now)) c.in_err-after.ensures.takes

pub returns-clause-reads : goal.returns-clause-reads
returns-clause-reads c =
    λ targets name. whole (by_need c.in_ok-after.ensures.takes (by_part c.in_ok-all.ensures.reads (start (giving c.args.within.locals.now targets name) c.args.tokens.now)))

pub returns-clause-shorter : goal.returns-clause-shorter
returns-clause-shorter c = less c.in_ok-all.ensures.shorter c.in_ok-after.ensures.shorter
