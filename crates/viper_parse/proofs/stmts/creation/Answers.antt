use Rattle.std.proofs.Common.{ap, ◌∙◌, false, true}
use Rattle.viper_syntax.specs.Stmt as s
use Rattle.viper_syntax.specs.View.{rhs_of}
use Rattle.viper_grammar.specs.Grammar as g
use Rattle.viper_grammar.proofs.Reading.{viper_steps}
use Rattle.viper_parse.proofs.stmts.creation.Goals as goal
open viper_steps use {start, by_need, by_token, by_other, token_error, pass_on, whole_as}

pub returns-in_err-rest-clause-reads : goal.returns-in_err-rest-clause-reads
returns-in_err-rest-clause-reads c =
    token_error rhs_of _ _ c.from_residual.ensures.1 (start (g.rule (g.Creation c.args.at)) c.args.tokens.now) c.in_err-rest.ensures.takes

pub returns-in-Some-clause-reads : goal.returns-in-Some-clause-reads
returns-in-Some-clause-reads c =
    whole_as (by_token c.in-Some.ensures.eats (by_need c.in_ok-rest.ensures.takes (start (g.rule (g.Creation c.args.at)) c.args.tokens.now))) (c.created.ensures ∙ ap (λ xs. s.NewRhs (record { at = c.args.at; every = false; fields = xs })) c.new.ensures.items)

pub returns-in_err-closed-clause-reads : goal.returns-in_err-closed-clause-reads
returns-in_err-closed-clause-reads c =
    token_error rhs_of _ _ c.from_residual-in_err-closed.ensures.1 (by_token c.in-Some-eat_sign.ensures.eats (by_other c.in_default.ensures.eats (by_need c.in_ok-rest.ensures.takes (start (g.rule (g.Creation c.args.at)) c.args.tokens.now)))) c.in_err-closed.ensures.takes

pub returns-in-Some-eat_sign-clause-reads : goal.returns-in-Some-eat_sign-clause-reads
returns-in-Some-eat_sign-clause-reads c =
    whole_as (by_need c.in_ok-closed.ensures.takes (by_token c.in-Some-eat_sign.ensures.eats (by_other c.in_default.ensures.eats (by_need c.in_ok-rest.ensures.takes (start (g.rule (g.Creation c.args.at)) c.args.tokens.now))))) (c.created-in-Some-eat_sign.ensures ∙ ap (λ xs. s.NewRhs (record { at = c.args.at; every = true; fields = xs })) c.new-in-Some-eat_sign.ensures.items)

pub returns-clause-reads : goal.returns-clause-reads
returns-clause-reads c =
    pass_on rhs_of _ (by_other c.in_default-eat_sign.ensures.eats (by_other c.in_default.ensures.eats (by_need c.in_ok-rest.ensures.takes (start (g.rule (g.Creation c.args.at)) c.args.tokens.now)))) c.new_fields.ensures.reads
