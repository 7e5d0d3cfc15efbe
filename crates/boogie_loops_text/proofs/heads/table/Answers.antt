use Rattle.std.proofs.Common.{◌++◌, ap}
use Rattle.boogie_grammar.specs.Words.{is_among}
use Rattle.boogie_grammar.proofs.BoundLaws.{rest_of}
use Rattle.boogie_loops_text.proofs.NameSets.{among_next, among_end}
use Rattle.boogie_loops_text.proofs.heads.table.Goals as goal

pub loop-first-init : goal.loop-first-init
loop-first-init c = λ x. ap (λ l. is_among x (l ++ c.args.names.now)) c.new-all.ensures

pub loop-first-preserved : goal.loop-first-preserved
loop-first-preserved c = among_next c.loop-first.all _ c.in-Some.first.now c.in-Some.rest.now c.loop-first.left.now _ c.in-Some.ensures.cases.0 c.in_ok-add_once.ensures c.loop-first.invariant

pub returns : goal.returns
returns c = among_end c.loop-first.all c.loop-first.left.now _ (rest_of _ c.in_default.ensures.cases) c.loop-first.invariant
