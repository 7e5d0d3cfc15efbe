use Rattle.boogie_grammar.proofs.Reading.{boogie_steps}
use Rattle.boogie_text.specs.Tail.{heading}
use Rattle.boogie_text.proofs.outside.head.Goals as goal
open boogie_steps use {start, by_need, whole, token_error}

pub returns-in_err-name-clause-reads : goal.returns-in_err-name-clause-reads
returns-in_err-name-clause-reads c = token_error (λ x. x) _ _ c.from_residual.ensures.1 (start (heading c.args.taken.now) c.args.tokens.now) c.in_err-name.ensures.takes

pub returns-in_err-rest-clause-reads : goal.returns-in_err-rest-clause-reads
returns-in_err-rest-clause-reads c =
    token_error (λ x. x) _ _ c.from_residual-in_err-rest.ensures.1 (by_need c.in_ok-name.ensures.takes (start (heading c.args.taken.now) c.args.tokens.now)) c.in_err-rest.ensures.takes

pub returns-in_err-rest-2-clause-reads : goal.returns-in_err-rest-2-clause-reads
returns-in_err-rest-2-clause-reads c =
    token_error (λ x. x) _ _ c.from_residual-in_err-rest-2.ensures.1 (by_need c.in_ok-rest.ensures.takes (by_need c.in_ok-name.ensures.takes (start (heading c.args.taken.now) c.args.tokens.now))) c.in_err-rest-2.ensures.takes

pub returns-in_err-rest-3-clause-reads : goal.returns-in_err-rest-3-clause-reads
returns-in_err-rest-3-clause-reads c =
    token_error (λ x. x) _ _ c.from_residual-in_err-rest-3.ensures.1 (by_need c.in_ok-rest-2.ensures.takes (by_need c.in_ok-rest.ensures.takes (by_need c.in_ok-name.ensures.takes (start (heading c.args.taken.now) c.args.tokens.now)))) c.in_err-rest-3.ensures.takes

pub returns-clause-reads : goal.returns-clause-reads
returns-clause-reads c =
    whole (by_need c.in_ok-rest-3.ensures.takes (by_need c.in_ok-rest-2.ensures.takes (by_need c.in_ok-rest.ensures.takes (by_need c.in_ok-name.ensures.takes (start (heading c.args.taken.now) c.args.tokens.now)))))

pub returns-clause-new : goal.returns-clause-new
returns-clause-new c = c.in_ok-name.ensures.takes.passes.2
