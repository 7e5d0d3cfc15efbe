use Rattle.std.proofs.Common.{subst}
use Rattle.boogie_tree.specs.Whole.{local_of}
use Rattle.boogie_grammar.specs.Parts.{IsPart}
use Rattle.boogie_text.specs.Tail.{SpellsLocal}
use Rattle.boogie_text.proofs.TailLaws.{begins_local}
use Rattle.boogie_text.proofs.inside.next_local.Goals as goal

pub returns-in-Some : goal.returns-in-Some
returns-in-Some c =
    let part : IsPart 1 c.args.text.now c.next_part.new.tokens.items 1 c.in-Tokens-default-eq1.rest.now = rw (c.in-Tokens-default-eq1.is, c.in-Tokens-default-eq1.field-1-test) at c.in_ok-rest.ensures in
    let spells : SpellsLocal c.args.names.now c.deref.result.now (local_of c.in-Some.local) = rw c.in-Some.is at c.in_ok-local.ensures in
    begins_local part (subst (λ ts. SpellsLocal c.args.names.now ts (local_of c.in-Some.local)) c.deref.ensures.value spells)
