use Rattle.std.proofs.Common.{[], refl, subst}
use Rattle.boogie_tree.specs.Whole.{stmt_of}
use Rattle.boogie_grammar.specs.declared.tokens.BSign.TheVariants as sign
use Rattle.boogie_grammar.specs.Greedy.{Starts}
use Rattle.boogie_grammar.specs.Parts.{IsPart}
use Rattle.boogie_grammar.specs.Tests.{the_sign}
use Rattle.boogie_text.specs.Tail.{SpellsStatement}
use Rattle.boogie_text.proofs.TailLaws.{begins_statement, begins_end}
use Rattle.boogie_text.proofs.inside.next_statement.Goals as goal

pub returns-in-Some : goal.returns-in-Some
returns-in-Some c =
    let part : IsPart 1 c.args.text.now c.next_part.new.tokens.items 1 c.in-Tokens-default-eq1.rest.now = rw (c.in-Tokens-default-eq1.is, c.in-Tokens-default-eq1.field-1-test) at c.in_ok-rest.ensures in
    let spells : SpellsStatement c.args.locals.now c.deref.result.now (stmt_of c.in-Some.stmt) = rw c.in-Some.is at c.in_ok-stmt-in-Tokens-default-eq1.ensures in
    begins_statement part (subst (λ ts. SpellsStatement c.args.locals.now ts (stmt_of c.in-Some.stmt)) c.deref.ensures.value spells)

pub returns-in-Tokens-default-eq0 : goal.returns-in-Tokens-default-eq0
returns-in-Tokens-default-eq0 c =
    let part : IsPart 1 c.args.text.now c.next_part.new.tokens.items 0 c.in-Tokens-default-eq0.rest.now = rw (c.in-Tokens-default-eq0.is, c.in-Tokens-default-eq0.field-1-test) at c.in_ok-rest.ensures in
    begins_end part (subst (λ ts. Starts (the_sign sign.CloseBrace) ts tt []) c.deref-in-0-1.ensures.value (c.if-is_end.ensures refl))
