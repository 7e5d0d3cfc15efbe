use Rattle.viper_syntax.specs.View.{stmt_of}
use Rattle.viper_grammar.specs.Grammar as g
use Rattle.viper_grammar.proofs.Reading.{viper_steps}
use Rattle.viper_parse.proofs.stmts.variable.Goals as goal
open viper_steps use {start, by_token, by_other, by_part, whole, part_error}

pub returns-in_err-declared-clause-reads : goal.returns-in_err-declared-clause-reads
returns-in_err-declared-clause-reads c =
    part_error stmt_of _ _ c.from_residual.ensures.1 (start (g.rule (g.Variable c.args.at)) c.args.tokens.now) c.in_err-declared.ensures.reads

pub returns-in_default-clause-reads : goal.returns-in_default-clause-reads
returns-in_default-clause-reads c =
    whole (by_other c.in_default.ensures.eats (by_part c.in_ok-declared.ensures.reads (start (g.rule (g.Variable c.args.at)) c.args.tokens.now)))

pub returns-in_err-value-clause-reads : goal.returns-in_err-value-clause-reads
returns-in_err-value-clause-reads c =
    part_error stmt_of _ _ c.from_residual-in_err-value.ensures.1 (by_token c.in-Some.ensures.eats (by_part c.in_ok-declared.ensures.reads (start (g.rule (g.Variable c.args.at)) c.args.tokens.now))) c.in_err-value.ensures.reads

pub returns-clause-reads : goal.returns-clause-reads
returns-clause-reads c =
    whole (by_part c.in_ok-value.ensures.reads (by_token c.in-Some.ensures.eats (by_part c.in_ok-declared.ensures.reads (start (g.rule (g.Variable c.args.at)) c.args.tokens.now))))
