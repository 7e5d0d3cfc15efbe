use Rattle.std.proofs.Common.{◌∙◌}
use Rattle.vb_tool.proofs.MakingLaws.{made_short, made_not_refused}
use Rattle.vb_tool.proofs.making.generated.Goals as goal

pub typed_program-requires : goal.typed_program-requires
typed_program-requires c =
    made_short c.args.count c.deref.result.now (λ out. let is = c.in_ok-text.ensures.range.1 out in absurd (cc)) (c.deref.ensures.value ∙ c.in_ok-text.ensures.text)

pub returns-clause-refused : goal.returns-clause-refused
returns-clause-refused c r is_r =
    made_not_refused c.args.count c.deref.result.now r (λ out. let is = c.in_ok-text.ensures.range.1 out in absurd (cc)) (c.deref.ensures.value ∙ c.in_ok-text.ensures.text)
    (c.typed_program.ensures.refused r is_r)
