use Rattle.std.proofs.Common.{◌≡◌, ◌∙◌, sym, ap, arith}
use Rattle.std.proofs.lemmas.Int.{to_z-of_z}
use mir.Val.{to_z, of_z}
use mir.Syntax.{w128}
use Rattle.boogie_grammar.specs.declared.tokens.Lexeme.TheVariants as tok
use Rattle.boogie_grammar.proofs.eating.eat_real.Goals as goal

pub returns-in-Real-clause-eats : goal.returns-in-Real-clause-eats
returns-in-Real-clause-eats c =
    let same : to_z w128 (of_z w128 c.value.result) ≡ c.value.result = grind (arith, to_z-of_z) in
    record { token = c.in_ok-first.first.now; is = c.in_ok-first.ensures.cases.0; passes = c.in-Real.is ∙ ap tok.Real (sym (same ∙ c.value.ensures)) }
