use Rattle.std.proofs.Common.{ap}
use Rattle.viper_syntax.specs.Decl as d
use Rattle.viper_syntax.specs.View.{term_of, decl_of}
use Rattle.viper_grammar.specs.Grammar as g
use Rattle.viper_grammar.proofs.Reading.{viper_steps}
use Rattle.viper_parse.proofs.HeaderLaws.{head_error, by_header}
use Rattle.viper_parse.proofs.decls.predicate.Goals as goal
use Rattle.std.proofs.Common.{Some}
open viper_steps use {start, by_need, by_token, by_other, by_part, whole, part_error, token_error, whole_as}

pub returns-in_err-named-clause-reads : goal.returns-in_err-named-clause-reads
returns-in_err-named-clause-reads c =
    head_error decl_of _ _ c.from_residual.ensures.1 (start (g.rule (g.Predicate c.args.at)) c.args.tokens.now) c.in_err-named.ensures.reads

pub returns-in_default-clause-reads : goal.returns-in_default-clause-reads
returns-in_default-clause-reads c =
    whole (by_other c.in_default.ensures.eats (by_header c.in_ok-named.ensures.reads (start (g.rule (g.Predicate c.args.at)) c.args.tokens.now)))

pub returns-in_err-part-clause-reads : goal.returns-in_err-part-clause-reads
returns-in_err-part-clause-reads c =
    part_error decl_of _ _ c.from_residual-in_err-part.ensures.1 (by_token c.in-Some.ensures.eats (by_header c.in_ok-named.ensures.reads (start (g.rule (g.Predicate c.args.at)) c.args.tokens.now))) c.in_err-part.ensures.reads

pub returns-in_err-rest-clause-reads : goal.returns-in_err-rest-clause-reads
returns-in_err-rest-clause-reads c =
    token_error decl_of _ _ c.from_residual-in_err-rest.ensures.1 (by_part c.in_ok-part.ensures.reads (by_token c.in-Some.ensures.eats (by_header c.in_ok-named.ensures.reads (start (g.rule (g.Predicate c.args.at)) c.args.tokens.now)))) c.in_err-rest.ensures.takes

pub returns-clause-reads : goal.returns-clause-reads
returns-clause-reads c =
    whole_as (by_need c.in_ok-rest.ensures.takes (by_part c.in_ok-part.ensures.reads (by_token c.in-Some.ensures.eats (by_header c.in_ok-named.ensures.reads (start (g.rule (g.Predicate c.args.at)) c.args.tokens.now))))) (ap (λ a. d.Predicate c.args.at c.in_ok-named.named c.in_ok-named.params.items (Some a)) (ap term_of c.into_inner.ensures))
