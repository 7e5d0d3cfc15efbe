use Rattle.viper_grammar.specs.Grammar as g
use Rattle.viper_grammar.proofs.Reading.{viper_steps}
use Rattle.viper_parse.proofs.stmts.formal.Goals as goal
open viper_steps use {start, by_need, whole, token_error}

pub returns-in_err-named-clause-reads : goal.returns-in_err-named-clause-reads
returns-in_err-named-clause-reads c =
    token_error (λ x. x) _ _ c.from_residual.ensures.1 (start (g.rule g.FormalOf) c.args.tokens.now) c.in_err-named.ensures.takes

pub returns-in_err-after-clause-reads : goal.returns-in_err-after-clause-reads
returns-in_err-after-clause-reads c =
    token_error (λ x. x) _ _ c.from_residual-in_err-after.ensures.1 (by_need c.in_ok-named.ensures.takes (start (g.rule g.FormalOf) c.args.tokens.now)) c.in_err-after.ensures.takes

pub returns-in_err-ty-clause-reads : goal.returns-in_err-ty-clause-reads
returns-in_err-ty-clause-reads c =
    token_error (λ x. x) _ _ c.from_residual-in_err-ty.ensures.1 (by_need c.in_ok-after.ensures.takes (by_need c.in_ok-named.ensures.takes (start (g.rule g.FormalOf) c.args.tokens.now))) c.in_err-ty.ensures.takes

pub returns-clause-reads : goal.returns-clause-reads
returns-clause-reads c =
    whole (by_need c.in_ok-ty.ensures.takes (by_need c.in_ok-after.ensures.takes (by_need c.in_ok-named.ensures.takes (start (g.rule g.FormalOf) c.args.tokens.now))))
