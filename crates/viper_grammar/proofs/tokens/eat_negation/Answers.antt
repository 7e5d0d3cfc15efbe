use Rattle.std.proofs.Common.{refl, sym}
use Rattle.viper_grammar.proofs.tokens.eat_negation.Goals as goal

pub returns-in-Sign-clause-eats : goal.returns-in-Sign-clause-eats
returns-in-Sign-clause-eats c =
    record { token = c.in_ok-first.first.now; is = c.in_ok-first.ensures.cases.0; passes = (c.in-Sign.is, refl, sym c.if-is_negation.ensures) }
