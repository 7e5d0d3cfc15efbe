use Rattle.boogie_grammar.specs.Grammar as g
use Rattle.boogie_grammar.specs.ReadView.{all_exprs_of}
use Rattle.boogie_grammar.proofs.Reading.{boogie_steps}
use Rattle.boogie_text.proofs.StmtLaws.{outside_is}
use Rattle.boogie_text.proofs.simple.whole_exprs.Goals as goal
open boogie_steps use {parses_at}

pub returns-clause-reads : goal.returns-clause-reads
returns-clause-reads c =
    parses_at all_exprs_of (λ bs. g.rule (g.Exprs bs)) c.args.tokens.now _ (outside_is c.args.locals.now c.new-others.ensures c.none_bound.ensures) c.exprs.ensures.reads
