use Rattle.boogie_grammar.proofs.BoundLaws.{forall_goes, no_forall}
use Rattle.boogie_grammar.proofs.leaves.eat_forall.Goals as goal

pub returns-in-Some-clause-eats : goal.returns-in-Some-clause-eats
returns-in-Some-clause-eats c = no_forall c.args.tokens.now c.in-Some.ensures.cases.0

pub returns-in-None-clause-eats : goal.returns-in-None-clause-eats
returns-in-None-clause-eats c = forall_goes c.args.scope.bound.now c.args.tokens.now _ c.in-None.ensures.cases c.eat_word.ensures.eats
