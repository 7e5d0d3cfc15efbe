use Rattle.boogie_grammar.specs.Grammar as g
use Rattle.boogie_grammar.specs.ReadView.{all_exprs_of}
use Rattle.boogie_grammar.proofs.Reading.{boogie_steps}
use Rattle.boogie_loops_text.proofs.WideStmts.{scope_is}
use Rattle.boogie_loops_text.proofs.parts.whole_exprs.Goals as goal
open boogie_steps use {parses_at}

pub returns-clause-reads : goal.returns-clause-reads
returns-clause-reads c =
    parses_at all_exprs_of (λ bs. g.rule (g.Exprs bs)) _ _ (scope_is c.args.within.locals.now c.names.ensures c.none_bound.ensures) c.exprs.ensures.reads
