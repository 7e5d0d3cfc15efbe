use Rattle.std.proofs.Common.{sym, ap, ◌∙◌, drop, drop_of_length-le}
use Rattle.cert_definitions.specs.Texts.{same_literals}
use Rattle.cert_definitions.proofs.ReadLaws.{same_ended, same_over}
use Rattle.cert_definitions.proofs.texts.same_literals.Goals as goal

pub returns-in_default : goal.returns-in_default
returns-in_default c = sym (c.loop-literal.invariant.same ∙ same_over _ _ _ _ c.loop-literal-test.true c.in_default.ensures.lookup.3)

pub returns : goal.returns
returns c =
    sym (c.loop-literal.invariant.same
    ∙ ap (λ xs. same_literals xs (drop c.loop-literal.count c.args.right.now)) (drop_of_length-le _ c.loop-literal-test.false)
    ∙ same_ended _ _ c.loop-literal.invariant.within)
