use Rattle.viper_syntax.specs.View.{decl_of}
use Rattle.viper_grammar.specs.Grammar as g
use Rattle.viper_grammar.proofs.Reading.{viper_steps}
use Rattle.viper_parse.proofs.HeaderLaws.{head_error, by_header}
use Rattle.viper_parse.proofs.decls.method.Goals as goal
open viper_steps use {start, by_part, whole, part_error}

pub returns-in_err-named-clause-reads : goal.returns-in_err-named-clause-reads
returns-in_err-named-clause-reads c =
    head_error decl_of _ _ c.from_residual.ensures.1 (start (g.rule (g.Method c.args.at)) c.args.tokens.now) c.in_err-named.ensures.reads

pub returns-in_err-results-clause-reads : goal.returns-in_err-results-clause-reads
returns-in_err-results-clause-reads c =
    part_error decl_of _ _ c.from_residual-in_err-results.ensures.1 (by_header c.in_ok-named.ensures.reads (start (g.rule (g.Method c.args.at)) c.args.tokens.now)) c.in_err-results.ensures.reads

pub returns-in_err-conditions-clause-reads : goal.returns-in_err-conditions-clause-reads
returns-in_err-conditions-clause-reads c =
    part_error decl_of _ _ c.from_residual-in_err-conditions.ensures.1 (by_part c.in_ok-results.ensures.reads (by_header c.in_ok-named.ensures.reads (start (g.rule (g.Method c.args.at)) c.args.tokens.now))) c.in_err-conditions.ensures.reads

pub returns-in_err-block-clause-reads : goal.returns-in_err-block-clause-reads
returns-in_err-block-clause-reads c =
    part_error decl_of _ _ c.from_residual-in_err-block.ensures.1 (by_part c.in_ok-conditions.ensures.reads (by_part c.in_ok-results.ensures.reads (by_header c.in_ok-named.ensures.reads (start (g.rule (g.Method c.args.at)) c.args.tokens.now)))) c.in_err-block.ensures.reads

pub returns-clause-reads : goal.returns-clause-reads
returns-clause-reads c =
    whole (by_part c.in_ok-block.ensures.reads (by_part c.in_ok-conditions.ensures.reads (by_part c.in_ok-results.ensures.reads (by_header c.in_ok-named.ensures.reads (start (g.rule (g.Method c.args.at)) c.args.tokens.now)))))
