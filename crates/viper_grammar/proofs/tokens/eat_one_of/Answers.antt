use Rattle.std.proofs.Common.{refl, sym}
use Rattle.viper_grammar.proofs.tokens.eat_one_of.Goals as goal

pub returns-in-Word-clause-eats : goal.returns-in-Word-clause-eats
returns-in-Word-clause-eats c =
    record { token = c.in_ok-first.first.now; is = c.in_ok-first.ensures.cases.0; passes = (c.in-Word.is, refl, sym c.if-is_of.ensures) }
