use Rattle.boogie_grammar.proofs.eating.eat_operator.Goals as goal

pub returns-clause-eats : goal.returns-clause-eats
returns-clause-eats c = record { token = c.in_ok-first.first.now; is = c.in_ok-first.ensures.cases.0; passes = c.in_ok-op.ensures }
