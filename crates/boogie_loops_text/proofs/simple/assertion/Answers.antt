use Rattle.grammar.specs.Rules.{give}
use Rattle.boogie_loops.specs.Wide as w
use Rattle.boogie_loops.specs.View.{wstmt_of}
use Rattle.boogie_loops_text.specs.View.{asserting}
use Rattle.boogie_loops_grammar.proofs.Reading.{wide_steps}
use Rattle.boogie_loops_text.proofs.Steps.{rest_error}
use Rattle.boogie_loops_text.proofs.simple.assertion.Goals as goal
open wide_steps use {start, whole, goes_then}

pub returns-in_err-claim-clause-reads : goal.returns-in_err-claim-clause-reads
returns-in_err-claim-clause-reads c =
    rest_error wstmt_of _ _ c.from_residual.ensures.1 (start (asserting c.args.within.locals.now) c.args.tokens.now) (c.in_err-claim.ensures.reads _ (λ m. give (w.Assert m.label m.e)))

pub returns-clause-reads : goal.returns-clause-reads
returns-clause-reads c =
    whole (goes_then (start (asserting c.args.within.locals.now) c.args.tokens.now) (c.in_ok-claim.ensures.reads _ (λ m. give (w.Assert m.label m.e))))

pub returns-clause-shorter : goal.returns-clause-shorter
returns-clause-shorter c = c.in_ok-claim.ensures.shorter
