use Rattle.viper_grammar.specs.Grammar as g
use Rattle.viper_parse.specs.View.{formals_of}
use Rattle.viper_grammar.proofs.Reading.{viper_steps}
use Rattle.viper_parse.proofs.decls.returns.Goals as goal
open viper_steps use {start, by_need, by_token, by_other, token_error, tail, pass_on, whole_as}

pub returns-in_default-clause-reads : goal.returns-in_default-clause-reads
returns-in_default-clause-reads c =
    whole_as (by_other c.in_default.ensures.eats (start (g.rule g.Returns) c.args.tokens.now)) c.new-none.ensures.items

pub returns-in_err-rest-clause-reads : goal.returns-in_err-rest-clause-reads
returns-in_err-rest-clause-reads c =
    token_error formals_of _ _ c.from_residual.ensures.1 (by_token c.in-Some.ensures.eats (start (g.rule g.Returns) c.args.tokens.now)) c.in_err-rest.ensures.takes

pub returns-clause-reads : goal.returns-clause-reads
returns-clause-reads c =
    pass_on formals_of _ (tail (by_need c.in_ok-rest.ensures.takes (by_token c.in-Some.ensures.eats (start (g.rule g.Returns) c.args.tokens.now)))) c.formals.ensures.reads
