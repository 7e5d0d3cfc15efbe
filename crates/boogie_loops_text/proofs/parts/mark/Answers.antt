use Rattle.boogie_loops_grammar.specs.Grammar as g
use Rattle.boogie_loops_text.specs.View.{ReadsMark}
use Rattle.boogie_loops_grammar.proofs.Reading.{wide_steps}
use Rattle.boogie_loops_text.proofs.Steps.{by_need, at_error, token_refuses}
use Rattle.grammar.proofs.LessLaws.{less}
use Rattle.boogie_loops_text.proofs.parts.mark.Goals as goal
open wide_steps use {start}

pub returns-in_err-rest-clause-reads : goal.returns-in_err-rest-clause-reads
returns-in_err-rest-clause-reads c =
    at_error (ReadsMark c.args.tokens.now) _ _ c.from_residual.ensures.1 (λ s go. token_refuses _ (start (g.marked go) c.args.tokens.now) c.in_err-rest.ensures.takes)

pub returns-in_err-rest-2-clause-reads : goal.returns-in_err-rest-2-clause-reads
returns-in_err-rest-2-clause-reads c =
    at_error (ReadsMark c.args.tokens.now) _ _ c.from_residual-in_err-rest-2.ensures.1 (λ s go. token_refuses _ (by_need c.in_ok-rest.ensures.takes (start (g.marked go) c.args.tokens.now)) c.in_err-rest-2.ensures.takes)

pub returns-in_err-rest-3-clause-reads : goal.returns-in_err-rest-3-clause-reads
returns-in_err-rest-3-clause-reads c =
    at_error (ReadsMark c.args.tokens.now) _ _ c.from_residual-in_err-rest-3.ensures.1 (λ s go. token_refuses _ (by_need c.in_ok-rest-2.ensures.takes (by_need c.in_ok-rest.ensures.takes (start (g.marked go) c.args.tokens.now))) c.in_err-rest-3.ensures.takes)

pub returns-in_err-text-clause-reads : goal.returns-in_err-text-clause-reads
returns-in_err-text-clause-reads c =
    at_error (ReadsMark c.args.tokens.now) _ _ c.from_residual-in_err-text.ensures.1 (λ s go. token_refuses _ (by_need c.in_ok-rest-3.ensures.takes (by_need c.in_ok-rest-2.ensures.takes (by_need c.in_ok-rest.ensures.takes (start (g.marked go) c.args.tokens.now)))) c.in_err-text.ensures.takes)

pub returns-in_err-rest-4-clause-reads : goal.returns-in_err-rest-4-clause-reads
returns-in_err-rest-4-clause-reads c =
    at_error (ReadsMark c.args.tokens.now) _ _ c.from_residual-in_err-rest-4.ensures.1 (λ s go. token_refuses _ (by_need c.in_ok-text.ensures.takes (by_need c.in_ok-rest-3.ensures.takes (by_need c.in_ok-rest-2.ensures.takes (by_need c.in_ok-rest.ensures.takes (start (g.marked go) c.args.tokens.now))))) c.in_err-rest-4.ensures.takes)

pub returns-clause-reads : goal.returns-clause-reads
returns-clause-reads c =
    λ s go. (by_need c.in_ok-rest-4.ensures.takes (by_need c.in_ok-text.ensures.takes (by_need c.in_ok-rest-3.ensures.takes (by_need c.in_ok-rest-2.ensures.takes (by_need c.in_ok-rest.ensures.takes (start (g.marked go) c.args.tokens.now))))))

pub returns-clause-shorter : goal.returns-clause-shorter
returns-clause-shorter c = less (less (less (less c.in_ok-rest.ensures.shorter c.in_ok-rest-2.ensures.shorter) c.in_ok-rest-3.ensures.shorter) c.in_ok-text.ensures.shorter) c.in_ok-rest-4.ensures.shorter
