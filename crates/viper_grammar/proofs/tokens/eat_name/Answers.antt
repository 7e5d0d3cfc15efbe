use Rattle.std.proofs.Common.{◌∙◌, refl, sym, ap}
use Rattle.viper_syntax.specs.declared.tokens.Tok.TheVariants as tok
use Rattle.viper_grammar.proofs.tokens.eat_name.Goals as goal

pub returns-in_ok-name-in-Name-clause-eats : goal.returns-in_ok-name-in-Name-clause-eats
returns-in_ok-name-in-Name-clause-eats c =
    record { token = c.in-Some.first.now; is = c.in-Some.ensures.cases.0; passes = (c.in-Name.is ∙ ap tok.Name (sym c.in_ok-name-in-Name.ensures), refl) }
