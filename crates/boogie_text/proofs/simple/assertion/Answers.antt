use Rattle.boogie_tree.specs.Whole.{stmt_of}
use Rattle.boogie_grammar.proofs.Reading.{boogie_steps}
use Rattle.boogie_text.specs.StmtView.{asserting}
use Rattle.grammar.proofs.LessLaws.{less}
use Rattle.boogie_text.proofs.simple.assertion.Goals as goal
open boogie_steps use {start, by_need, by_part, whole, token_error, part_error}

pub returns-in_err-rest-clause-reads : goal.returns-in_err-rest-clause-reads
returns-in_err-rest-clause-reads c =
    token_error stmt_of _ _ c.from_residual.ensures.1 (start (asserting c.args.locals.now) c.args.tokens.now) c.in_err-rest.ensures.takes

pub returns-in_err-rest-2-clause-reads : goal.returns-in_err-rest-2-clause-reads
returns-in_err-rest-2-clause-reads c =
    token_error stmt_of _ _ c.from_residual-in_err-rest-2.ensures.1 (by_need c.in_ok-rest.ensures.takes (start (asserting c.args.locals.now) c.args.tokens.now)) c.in_err-rest-2.ensures.takes

pub returns-in_err-rest-3-clause-reads : goal.returns-in_err-rest-3-clause-reads
returns-in_err-rest-3-clause-reads c =
    token_error stmt_of _ _ c.from_residual-in_err-rest-3.ensures.1 (by_need c.in_ok-rest-2.ensures.takes (by_need c.in_ok-rest.ensures.takes (start (asserting c.args.locals.now) c.args.tokens.now))) c.in_err-rest-3.ensures.takes

pub returns-in_err-text-clause-reads : goal.returns-in_err-text-clause-reads
returns-in_err-text-clause-reads c =
    token_error stmt_of _ _ c.from_residual-in_err-text.ensures.1 (by_need c.in_ok-rest-3.ensures.takes (by_need c.in_ok-rest-2.ensures.takes (by_need c.in_ok-rest.ensures.takes (start (asserting c.args.locals.now) c.args.tokens.now)))) c.in_err-text.ensures.takes

pub returns-in_err-rest-4-clause-reads : goal.returns-in_err-rest-4-clause-reads
returns-in_err-rest-4-clause-reads c =
    token_error stmt_of _ _ c.from_residual-in_err-rest-4.ensures.1 (by_need c.in_ok-text.ensures.takes (by_need c.in_ok-rest-3.ensures.takes (by_need c.in_ok-rest-2.ensures.takes (by_need c.in_ok-rest.ensures.takes (start (asserting c.args.locals.now) c.args.tokens.now))))) c.in_err-rest-4.ensures.takes

pub returns-in_err-claim-clause-reads : goal.returns-in_err-claim-clause-reads
returns-in_err-claim-clause-reads c =
    part_error stmt_of _ _ c.from_residual-in_err-claim.ensures.1 (by_need c.in_ok-rest-4.ensures.takes (by_need c.in_ok-text.ensures.takes (by_need c.in_ok-rest-3.ensures.takes (by_need c.in_ok-rest-2.ensures.takes (by_need c.in_ok-rest.ensures.takes (start (asserting c.args.locals.now) c.args.tokens.now)))))) c.in_err-claim.ensures.reads

pub returns-in_err-after-clause-reads : goal.returns-in_err-after-clause-reads
returns-in_err-after-clause-reads c =
    token_error stmt_of _ _ c.from_residual-in_err-after.ensures.1 (by_part c.in_ok-claim.ensures.reads (by_need c.in_ok-rest-4.ensures.takes (by_need c.in_ok-text.ensures.takes (by_need c.in_ok-rest-3.ensures.takes (by_need c.in_ok-rest-2.ensures.takes (by_need c.in_ok-rest.ensures.takes (start (asserting c.args.locals.now) c.args.tokens.now))))))) c.in_err-after.ensures.takes

pub returns-clause-reads : goal.returns-clause-reads
returns-clause-reads c =
    whole (by_need c.in_ok-after.ensures.takes (by_part c.in_ok-claim.ensures.reads (by_need c.in_ok-rest-4.ensures.takes (by_need c.in_ok-text.ensures.takes (by_need c.in_ok-rest-3.ensures.takes (by_need c.in_ok-rest-2.ensures.takes (by_need c.in_ok-rest.ensures.takes (start (asserting c.args.locals.now) c.args.tokens.now))))))))

pub returns-clause-shorter : goal.returns-clause-shorter
returns-clause-shorter c = less (less (less (less (less (less c.in_ok-rest.ensures.shorter c.in_ok-rest-2.ensures.shorter) c.in_ok-rest-3.ensures.shorter) c.in_ok-text.ensures.shorter) c.in_ok-rest-4.ensures.shorter) c.in_ok-claim.ensures.shorter) c.in_ok-after.ensures.shorter
