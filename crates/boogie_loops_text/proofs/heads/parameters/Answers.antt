use Rattle.std.proofs.Common.{ap}
use Rattle.boogie_loops_grammar.specs.Grammar as g
use Rattle.boogie_loops_grammar.proofs.Reading.{wide_steps}
use Rattle.boogie_loops_text.proofs.Steps.{by_token, by_other, tail}
use Rattle.boogie_tree.specs.Whole.{locals_of}
use Rattle.boogie_grammar.specs.ReadView.{all_locals_of}
use Rattle.boogie_loops_text.proofs.heads.parameters.Goals as goal
open wide_steps use {start, whole_as, pass_on, goes_by}

pub returns-in-Some-clause-reads : goal.returns-in-Some-clause-reads
returns-in-Some-clause-reads c =
    whole_as (by_token c.in-Some.ensures.eats (start (g.rule g.Parameters) c.args.tokens.now)) (ap locals_of c.new-none.ensures.items)

pub returns-in-Some-clause-shorter : goal.returns-in-Some-clause-shorter
returns-in-Some-clause-shorter c = c.in-Some.ensures.shorter

pub returns-clause-reads : goal.returns-clause-reads
returns-clause-reads c =
    pass_on all_locals_of _ (goes_by (λ ls. g.rule (g.Params ls)) (ap locals_of c.new-none.ensures.items) (tail (by_other c.in_default.ensures.eats (start (g.rule g.Parameters) c.args.tokens.now)))) c.more_params.ensures.reads
