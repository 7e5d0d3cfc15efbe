use Rattle.std.proofs.Common.{ap}
use Rattle.viper_grammar.specs.Grammar as g
use Rattle.viper_parse.specs.View.{body_of}
use Rattle.viper_grammar.proofs.Reading.{viper_steps}
use Rattle.viper_parse.proofs.decls.body.Goals as goal
use Rattle.std.proofs.Common.{Some}
open viper_steps use {start, by_token, by_other, by_part, whole, part_error, whole_as}

pub returns-in_default-clause-reads : goal.returns-in_default-clause-reads
returns-in_default-clause-reads c =
    whole (by_other c.in_default.ensures.eats (start (g.rule g.Body) c.args.tokens.now))

pub returns-in_err-stmts-clause-reads : goal.returns-in_err-stmts-clause-reads
returns-in_err-stmts-clause-reads c =
    part_error body_of _ _ c.from_residual.ensures.1 (by_token c.in-Some.ensures.eats (start (g.rule g.Body) c.args.tokens.now)) c.in_err-stmts.ensures.reads

pub returns-clause-reads : goal.returns-clause-reads
returns-clause-reads c =
    whole_as (by_part c.in_ok-stmts.ensures.reads (by_token c.in-Some.ensures.eats (start (g.rule g.Body) c.args.tokens.now))) (ap (λ b. Some b) c.braced.ensures)
