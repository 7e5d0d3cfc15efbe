use Rattle.std.proofs.Common.{subst}
use Rattle.boogie_grammar.specs.Parts.{IsPart}
use Rattle.boogie_text.specs.Tail.{SpellsHead}
use Rattle.boogie_text.proofs.TailLaws.{ends, begins_procedure}
use Rattle.boogie_text.proofs.outside.next_outside.Goals as goal

pub returns-in-End : goal.returns-in-End
returns-in-End c = ends (rw c.in-End.is at c.in_ok-next_part.ensures)

pub returns-in-Some : goal.returns-in-Some
returns-in-Some c =
    let part : IsPart 0 c.args.text.now c.next_part.new.tokens.items 1 c.in-Tokens-default-eq1.rest.now = rw (c.in-Tokens-default-eq1.is, c.in-Tokens-default-eq1.field-1-test) at c.in_ok-next_part.ensures in
    let spells : SpellsHead c.args.taken.now c.deref.result.now c.in-Some.name = rw c.in-Some.is at c.in_ok-name-in-Tokens-default-eq1.ensures in
    begins_procedure part (subst (λ ts. SpellsHead c.args.taken.now ts c.in-Some.name) c.deref.ensures.value spells)
