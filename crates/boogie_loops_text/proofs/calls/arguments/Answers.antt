use Rattle.std.proofs.Common.{ap, map}
use Rattle.boogie_loops_grammar.specs.Grammar as g
use Rattle.boogie_loops_grammar.proofs.Reading.{wide_steps}
use Rattle.boogie_loops_text.proofs.Steps.{by_token, by_other, tail}
use Rattle.boogie_tree.specs.Whole.{expr_of}
use Rattle.boogie_grammar.specs.ReadView.{all_exprs_of}
use Rattle.boogie_loops_text.proofs.calls.arguments.Goals as goal
open wide_steps use {start, whole_as, pass_on}

pub returns-in-Some-clause-reads : goal.returns-in-Some-clause-reads
returns-in-Some-clause-reads c =
    whole_as (by_token c.in-Some.ensures.eats (start (g.rule (g.Arguments c.args.within.locals.now)) c.args.tokens.now)) (ap (map expr_of) c.new-none.ensures.items)

pub returns-in-Some-clause-shorter : goal.returns-in-Some-clause-shorter
returns-in-Some-clause-shorter c = c.in-Some.ensures.shorter

pub returns-clause-reads : goal.returns-clause-reads
returns-clause-reads c =
    pass_on all_exprs_of _ (tail (by_other c.in_default.ensures.eats (start (g.rule (g.Arguments c.args.within.locals.now)) c.args.tokens.now))) c.more_arguments.ensures.reads

pub returns-clause-shorter : goal.returns-clause-shorter
returns-clause-shorter c = c.more_arguments.ensures.shorter
