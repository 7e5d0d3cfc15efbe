use Rattle.std.proofs.Common.{◌≡◌, ◌∙◌, refl, ap}
use Rattle.viper_syntax.specs.declared.tokens.Tok.TheVariants as tok
use Rattle.viper_grammar.proofs.tokens.eat_word.Goals as goal

pub returns-in-Word-clause-eats : goal.returns-in-Word-clause-eats
returns-in-Word-clause-eats c =
    let same : c.in-Word.word ≡ c.args.wanted = c.if-same_word.ensures.0 refl in
    record { token = c.in_ok-first.first.now; is = c.in_ok-first.ensures.cases.0; passes = (c.in-Word.is ∙ ap tok.Word same, refl) }
