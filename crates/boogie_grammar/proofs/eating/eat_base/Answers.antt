use Rattle.std.proofs.Common.{◌∙◌, sym, ap}
use Rattle.boogie_grammar.specs.declared.tokens.Lexeme.TheVariants as tok
use Rattle.boogie_grammar.proofs.eating.eat_base.Goals as goal

pub returns-in_ok-base-in-Name-clause-eats : goal.returns-in_ok-base-in-Name-clause-eats
returns-in_ok-base-in-Name-clause-eats c =
    record { token = c.in_ok-first.first.now; is = c.in_ok-first.ensures.cases.0; passes = c.in-Name.is ∙ ap tok.Name (sym c.bytes.ensures ∙ c.in_ok-base-in-Name.ensures) }
