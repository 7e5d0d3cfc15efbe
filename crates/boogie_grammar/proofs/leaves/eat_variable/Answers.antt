use Rattle.boogie_grammar.proofs.NameLaws.{numbered_is_free}
use Rattle.boogie_grammar.proofs.leaves.eat_variable.Goals as goal

pub returns-in_ok-i-in-Name-clause-eats : goal.returns-in_ok-i-in-Name-clause-eats
returns-in_ok-i-in-Name-clause-eats c = (
  numbered_is_free c.in-Name.name c.args.names.now c.in_ok-i-in-Name.i c.in_ok-i-in-Name.ensures.0 c.in_ok-i-in-Name.ensures.1,
  λ some. record {
    token = c.in_ok-first.first.now;
    is = c.in_ok-first.ensures.cases.0;
    passes = record { name = c.in-Name.name; is = c.in-Name.is; free = c.in_ok-i-in-Name.ensures.0; there = c.in_ok-i-in-Name.ensures.1 };
  },
)
