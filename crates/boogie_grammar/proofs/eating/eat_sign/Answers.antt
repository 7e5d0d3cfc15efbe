use Rattle.std.proofs.Common.{◌≡◌, ◌∙◌, refl, ap}
use Rattle.boogie_grammar.specs.declared.tokens.Lexeme.TheVariants as tok
use Rattle.boogie_grammar.proofs.eating.eat_sign.Goals as goal

pub returns-in-Sign-clause-eats : goal.returns-in-Sign-clause-eats
returns-in-Sign-clause-eats c =
    let same : c.in-Sign.sign ≡ c.args.wanted = c.if-same_sign.ensures.0 refl in
    record { token = c.in_ok-first.first.now; is = c.in_ok-first.ensures.cases.0; passes = c.in-Sign.is ∙ ap tok.Sign same }
