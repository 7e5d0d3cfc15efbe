use Rattle.std.proofs.Common.{refl}
use Rattle.viper_grammar.proofs.tokens.eat_operator.Goals as goal

pub returns-in-Sign-clause-eats : goal.returns-in-Sign-clause-eats
returns-in-Sign-clause-eats c =
    record { token = c.in_ok-first.first.now; is = c.in_ok-first.ensures.cases.0; passes = (c.in-Sign.is, refl, (c.if-is_at_level.ensures.0 refl).0, (c.if-is_at_level.ensures.0 refl).1) }
