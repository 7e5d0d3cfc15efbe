use Rattle.boogie_tree.specs.Whole.{stmt_of}
use Rattle.boogie_grammar.proofs.Reading.{boogie_steps}
use Rattle.boogie_text.specs.StmtView.{assuming}
use Rattle.grammar.proofs.LessLaws.{less}
use Rattle.boogie_text.proofs.simple.assumption.Goals as goal
open boogie_steps use {start, by_need, by_part, whole, token_error, part_error}

pub returns-in_err-claim-clause-reads : goal.returns-in_err-claim-clause-reads
returns-in_err-claim-clause-reads c =
    part_error stmt_of _ _ c.from_residual.ensures.1 (start (assuming c.args.locals.now) c.args.tokens.now) c.in_err-claim.ensures.reads

pub returns-in_err-after-clause-reads : goal.returns-in_err-after-clause-reads
returns-in_err-after-clause-reads c =
    token_error stmt_of _ _ c.from_residual-in_err-after.ensures.1 (by_part c.in_ok-claim.ensures.reads (start (assuming c.args.locals.now) c.args.tokens.now)) c.in_err-after.ensures.takes

pub returns-clause-reads : goal.returns-clause-reads
returns-clause-reads c =
    whole (by_need c.in_ok-after.ensures.takes (by_part c.in_ok-claim.ensures.reads (start (assuming c.args.locals.now) c.args.tokens.now)))

pub returns-clause-shorter : goal.returns-clause-shorter
returns-clause-shorter c = less c.in_ok-claim.ensures.shorter c.in_ok-after.ensures.shorter
