use Rattle.boogie_grammar.specs.ReadView.{scope_of}
use Rattle.boogie_text.specs.ReadSteps.{found_of}
use Rattle.boogie_text.proofs.BexprLaws.{finds_first}
use Rattle.boogie_text.proofs.single_expr.found.Goals as goal

pub returns-then-size-extent : goal.returns-then-size-extent
returns-then-size-extent c =
    finds_first (scope_of c.args.scope) c.args.tokens.now c.extent-extent.result (found_of c.in_ok-first.first) c.in_ok-first.size c.in_ok-first.ensures c.then-size-extent.either c.extent-extent.ensures
