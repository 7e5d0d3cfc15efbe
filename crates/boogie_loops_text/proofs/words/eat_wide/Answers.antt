use Rattle.std.proofs.Common.{◌∙◌, refl, sym, ap}
use Rattle.boogie_grammar.specs.declared.tokens.Lexeme.TheVariants as tok
use Rattle.boogie_loops_text.proofs.words.eat_wide.Goals as goal

pub returns-in-Name-clause-eats : goal.returns-in-Name-clause-eats
returns-in-Name-clause-eats c =
    let same = c.if-same_bytes.ensures.0 refl in
    record { token = c.in_ok-first.first.now; is = c.in_ok-first.ensures.cases.0; passes = c.in-Name.is ∙ ap tok.Name (sym c.bytes.ensures ∙ same ∙ c.spelled_as.ensures) }
