use Rattle.viper_syntax.specs.View.{rhs_of}
use Rattle.viper_grammar.specs.Grammar as g
use Rattle.viper_grammar.proofs.Reading.{viper_steps}
use Rattle.viper_parse.proofs.stmts.new_fields.Goals as goal
open viper_steps use {start, by_need, by_part, part_error, token_error, whole_as}

pub returns-in_err-named-clause-reads : goal.returns-in_err-named-clause-reads
returns-in_err-named-clause-reads c =
    token_error rhs_of _ _ c.from_residual.ensures.1 (start (g.new_fields c.args.at) c.args.tokens.now) c.in_err-named.ensures.takes

pub returns-in_err-fields-clause-reads : goal.returns-in_err-fields-clause-reads
returns-in_err-fields-clause-reads c =
    part_error rhs_of _ _ c.from_residual-in_err-fields.ensures.1 (by_need c.in_ok-named.ensures.takes (start (g.new_fields c.args.at) c.args.tokens.now)) c.in_err-fields.ensures.reads

pub returns-in_err-closed-clause-reads : goal.returns-in_err-closed-clause-reads
returns-in_err-closed-clause-reads c =
    token_error rhs_of _ _ c.from_residual-in_err-closed.ensures.1 (by_part c.in_ok-fields.ensures.reads (by_need c.in_ok-named.ensures.takes (start (g.new_fields c.args.at) c.args.tokens.now))) c.in_err-closed.ensures.takes

pub returns-clause-reads : goal.returns-clause-reads
returns-clause-reads c =
    whole_as (by_need c.in_ok-closed.ensures.takes (by_part c.in_ok-fields.ensures.reads (by_need c.in_ok-named.ensures.takes (start (g.new_fields c.args.at) c.args.tokens.now)))) c.created.ensures
