use Rattle.viper_syntax.specs.View.{stmt_of}
use Rattle.viper_grammar.specs.Grammar as g
use Rattle.viper_grammar.proofs.Reading.{viper_steps}
use Rattle.viper_parse.proofs.stmts.after_name.Goals as goal
open viper_steps use {start, by_need, by_token, by_other, by_part, whole, part_error, token_error, pass_on}

pub returns-in_err-args-clause-reads : goal.returns-in_err-args-clause-reads
returns-in_err-args-clause-reads c =
    part_error stmt_of _ _ c.from_residual.ensures.1 (by_token c.in-Some.ensures.eats (start (g.rule (g.AfterName c.args.named)) c.args.tokens.now)) c.in_err-args.ensures.reads

pub returns-in-Some-clause-reads : goal.returns-in-Some-clause-reads
returns-in-Some-clause-reads c =
    whole (by_part c.in_ok-args.ensures.reads (by_token c.in-Some.ensures.eats (start (g.rule (g.AfterName c.args.named)) c.args.tokens.now)))

pub returns-in-Some-eat_sign-clause-reads : goal.returns-in-Some-eat_sign-clause-reads
returns-in-Some-eat_sign-clause-reads c =
    pass_on stmt_of _ (by_token c.in-Some-eat_sign.ensures.eats (by_other c.in_default.ensures.eats (start (g.rule (g.AfterName c.args.named)) c.args.tokens.now))) c.targets.ensures.reads

pub returns-in_err-path-clause-reads : goal.returns-in_err-path-clause-reads
returns-in_err-path-clause-reads c =
    part_error stmt_of _ _ c.from_residual-in_err-path.ensures.1 (by_other c.in_default-eat_sign.ensures.eats (by_other c.in_default.ensures.eats (start (g.rule (g.AfterName c.args.named)) c.args.tokens.now))) c.in_err-path.ensures.reads

pub returns-in_err-after-clause-reads : goal.returns-in_err-after-clause-reads
returns-in_err-after-clause-reads c =
    token_error stmt_of _ _ c.from_residual-in_err-after.ensures.1 (by_part c.in_ok-path.ensures.reads (by_other c.in_default-eat_sign.ensures.eats (by_other c.in_default.ensures.eats (start (g.rule (g.AfterName c.args.named)) c.args.tokens.now)))) c.in_err-after.ensures.takes

pub returns-in_err-value-clause-reads : goal.returns-in_err-value-clause-reads
returns-in_err-value-clause-reads c =
    part_error stmt_of _ _ c.from_residual-in_err-value.ensures.1 (by_need c.in_ok-after.ensures.takes (by_part c.in_ok-path.ensures.reads (by_other c.in_default-eat_sign.ensures.eats (by_other c.in_default.ensures.eats (start (g.rule (g.AfterName c.args.named)) c.args.tokens.now))))) c.in_err-value.ensures.reads

pub returns-clause-reads : goal.returns-clause-reads
returns-clause-reads c =
    whole (by_part c.in_ok-value.ensures.reads (by_need c.in_ok-after.ensures.takes (by_part c.in_ok-path.ensures.reads (by_other c.in_default-eat_sign.ensures.eats (by_other c.in_default.ensures.eats (start (g.rule (g.AfterName c.args.named)) c.args.tokens.now))))))
