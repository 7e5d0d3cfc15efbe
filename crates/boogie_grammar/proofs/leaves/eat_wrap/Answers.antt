use Rattle.boogie_grammar.specs.Grammar as g
use Rattle.boogie_grammar.proofs.Reading.{boogie_steps}
use Rattle.boogie_grammar.proofs.leaves.eat_wrap.Goals as goal
open boogie_steps use {start, by_token, by_other}

pub returns-in-Some-clause-eats : goal.returns-in-Some-clause-eats
returns-in-Some-clause-eats c x others = by_token c.in-Some.ensures.eats (start (g.wraps x others) c.args.tokens.now)

pub returns-in-Some-eat_word-clause-eats : goal.returns-in-Some-eat_word-clause-eats
returns-in-Some-eat_word-clause-eats c x others = by_token c.in-Some-eat_word.ensures.eats (by_other c.in_default.ensures.eats (start (g.wraps x others) c.args.tokens.now))

pub returns-in-Some-eat_word-2-clause-eats : goal.returns-in-Some-eat_word-2-clause-eats
returns-in-Some-eat_word-2-clause-eats c x others = by_token c.in-Some-eat_word-2.ensures.eats (by_other c.in_default-eat_word.ensures.eats (by_other c.in_default.ensures.eats (start (g.wraps x others) c.args.tokens.now)))

pub returns-in-Some-eat_word-3-clause-eats : goal.returns-in-Some-eat_word-3-clause-eats
returns-in-Some-eat_word-3-clause-eats c x others = by_token c.in-Some-eat_word-3.ensures.eats (by_other c.in_default-eat_word-2.ensures.eats (by_other c.in_default-eat_word.ensures.eats (by_other c.in_default.ensures.eats (start (g.wraps x others) c.args.tokens.now))))

pub returns-in_err-rest-clause-eats : goal.returns-in_err-rest-clause-eats
returns-in_err-rest-clause-eats c = rw c.from_residual.ensures (λ x others. by_other c.in_err-rest.ensures.eats (by_other c.in_default-eat_word-3.ensures.eats (by_other c.in_default-eat_word-2.ensures.eats (by_other c.in_default-eat_word.ensures.eats (by_other c.in_default.ensures.eats (start (g.wraps x others) c.args.tokens.now))))))

pub returns-clause-eats : goal.returns-clause-eats
returns-clause-eats c x others = by_token c.in_ok-rest.ensures.eats (by_other c.in_default-eat_word-3.ensures.eats (by_other c.in_default-eat_word-2.ensures.eats (by_other c.in_default-eat_word.ensures.eats (by_other c.in_default.ensures.eats (start (g.wraps x others) c.args.tokens.now)))))
