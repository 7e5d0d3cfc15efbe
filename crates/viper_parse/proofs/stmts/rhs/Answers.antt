use Rattle.viper_syntax.specs.View.{rhs_of}
use Rattle.viper_grammar.specs.Grammar as g
use Rattle.viper_grammar.proofs.Reading.{viper_steps}
use Rattle.viper_parse.proofs.stmts.rhs.Goals as goal
open viper_steps use {start, by_token, by_other, by_part, part_error, tail, pass_on, whole_as}

pub returns-in-Some-clause-reads : goal.returns-in-Some-clause-reads
returns-in-Some-clause-reads c =
    pass_on rhs_of _ (tail (by_token c.in-Some.ensures.eats (start (g.rule g.Rhs) c.args.tokens.now))) c.creation.ensures.reads

pub returns-in_err-part-clause-reads : goal.returns-in_err-part-clause-reads
returns-in_err-part-clause-reads c =
    part_error rhs_of _ _ c.from_residual.ensures.1 (by_other c.in_default.ensures.eats (start (g.rule g.Rhs) c.args.tokens.now)) c.in_err-part.ensures.reads

pub returns-clause-reads : goal.returns-clause-reads
returns-clause-reads c =
    whole_as (by_part c.in_ok-part.ensures.reads (by_other c.in_default.ensures.eats (start (g.rule g.Rhs) c.args.tokens.now))) c.assigned.ensures
