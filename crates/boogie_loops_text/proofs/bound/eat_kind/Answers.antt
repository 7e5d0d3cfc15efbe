use Rattle.boogie_loops_grammar.specs.Grammar as g
use Rattle.boogie_loops_grammar.proofs.Reading.{wide_steps}
use Rattle.boogie_loops_text.proofs.Steps.{by_token, by_other}
use Rattle.boogie_loops_text.proofs.bound.eat_kind.Goals as goal
open wide_steps use {start}

pub returns-in-Some-clause-eats : goal.returns-in-Some-clause-eats
returns-in-Some-clause-eats c = λ ls k. by_token c.in-Some.ensures.eats (start (g.rule (g.Clauses ls k)) c.args.tokens.now)

pub returns-in_err-rest-clause-eats : goal.returns-in_err-rest-clause-eats
returns-in_err-rest-clause-eats c = rw c.from_residual.ensures (λ ls k. by_other c.in_err-rest.ensures.eats (by_other c.in_default.ensures.eats (start (g.rule (g.Clauses ls k)) c.args.tokens.now)))

pub returns-clause-eats : goal.returns-clause-eats
returns-clause-eats c = λ ls k. by_token c.in_ok-rest.ensures.eats (by_other c.in_default.ensures.eats (start (g.rule (g.Clauses ls k)) c.args.tokens.now))
