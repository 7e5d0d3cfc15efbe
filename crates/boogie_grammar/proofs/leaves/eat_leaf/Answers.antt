use Rattle.std.proofs.Common.{◌≡◌, ap, arith}
use Rattle.boogie_tree.specs.Expr as t
use Rattle.boogie_grammar.specs.Grammar as g
use Rattle.boogie_grammar.proofs.Reading.{boogie_steps}
use Rattle.std.proofs.lemmas.Int.{to_z-of_z}
use mir.Val.{to_z, of_z}
use mir.Syntax.{w128}
use Rattle.boogie_grammar.proofs.leaves.eat_leaf.Goals as goal
open boogie_steps use {start, by_token, by_other, whole, whole_as}

pub returns-in-Some-clause-eats : goal.returns-in-Some-clause-eats
returns-in-Some-clause-eats c others =
    let same : to_z w128 (of_z w128 c.in-Some.n) ≡ c.in-Some.n = grind (arith, to_z-of_z) in
    whole_as (by_token c.in-Some.ensures.eats (start (g.leaves others) c.args.tokens.now)) (ap t.Int same)

pub returns-in-Some-eat_real-clause-eats : goal.returns-in-Some-eat_real-clause-eats
returns-in-Some-eat_real-clause-eats c others =
    let same : to_z w128 (of_z w128 c.in-Some-eat_real.n) ≡ c.in-Some-eat_real.n = grind (arith, to_z-of_z) in
    whole_as (by_token c.in-Some-eat_real.ensures.eats (by_other c.in_default.ensures.eats (start (g.leaves others) c.args.tokens.now))) (ap t.Real same)

pub returns-in-Some-eat_word-clause-eats : goal.returns-in-Some-eat_word-clause-eats
returns-in-Some-eat_word-clause-eats c others = whole (by_token c.in-Some-eat_word.ensures.eats (by_other c.in_default-eat_real.ensures.eats (by_other c.in_default.ensures.eats (start (g.leaves others) c.args.tokens.now))))

pub returns-in-Some-eat_word-2-clause-eats : goal.returns-in-Some-eat_word-2-clause-eats
returns-in-Some-eat_word-2-clause-eats c others = whole (by_token c.in-Some-eat_word-2.ensures.eats (by_other c.in_default-eat_word.ensures.eats (by_other c.in_default-eat_real.ensures.eats (by_other c.in_default.ensures.eats (start (g.leaves others) c.args.tokens.now)))))

pub returns-in-Some-eat_word-3-clause-eats : goal.returns-in-Some-eat_word-3-clause-eats
returns-in-Some-eat_word-3-clause-eats c others = whole (by_token c.in-Some-eat_word-3.ensures.eats (by_other c.in_default-eat_word-2.ensures.eats (by_other c.in_default-eat_word.ensures.eats (by_other c.in_default-eat_real.ensures.eats (by_other c.in_default.ensures.eats (start (g.leaves others) c.args.tokens.now))))))

pub returns-in_err-rest-clause-eats : goal.returns-in_err-rest-clause-eats
returns-in_err-rest-clause-eats c = rw c.from_residual.ensures (λ others. by_other c.in_err-rest.ensures.eats (by_other c.in_default-eat_word-3.ensures.eats (by_other c.in_default-eat_word-2.ensures.eats (by_other c.in_default-eat_word.ensures.eats (by_other c.in_default-eat_real.ensures.eats (by_other c.in_default.ensures.eats (start (g.leaves others) c.args.tokens.now)))))))

pub returns-clause-eats : goal.returns-clause-eats
returns-clause-eats c others = whole (by_token c.in_ok-rest.ensures.eats (by_other c.in_default-eat_word-3.ensures.eats (by_other c.in_default-eat_word-2.ensures.eats (by_other c.in_default-eat_word.ensures.eats (by_other c.in_default-eat_real.ensures.eats (by_other c.in_default.ensures.eats (start (g.leaves others) c.args.tokens.now)))))))
