use Rattle.std.proofs.Common.{IsSome, inl, inr, [], refl, subst, sym}
use Rattle.vb_outer.proofs.SinkLaws.{appends_nothing}
use Rattle.prove_tool.specs.Parts.{memory_of_sink, unwritten_of_sink}
use Rattle.prove_tool.proofs.streams.write_certificate.Goals as goal

pub returns-in-Ok-clause-whole : goal.returns-in-Ok-clause-whole
returns-in-Ok-clause-whole g c = (c.deref.result.now, c.in-Ok-Some.ensures (subst (λ o. IsSome o) (sym c.in-Ok-Some.field-0-is) refl), c.in-Ok.ensures.ok)

pub returns-in-Ok-Some-clause-front : goal.returns-in-Ok-Some-clause-front
returns-in-Ok-Some-clause-front g c =
    inr (c.deref.result.now, c.in-Ok-Some.ensures (subst (λ o. IsSome o) (sym c.in-Ok-Some.field-0-is) refl), c.in-Err-write_all.ensures.failed)

pub returns-in-Ok-Some-clause-stops : goal.returns-in-Ok-Some-clause-stops
returns-in-Ok-Some-clause-stops g c = unwritten_of_sink c.in-Err-write_all.ensures.cause.failed

pub returns-in-Ok-None-clause-whole : goal.returns-in-Ok-None-clause-whole
returns-in-Ok-None-clause-whole g c = ([], refl, appends_nothing _ _ refl)

pub returns-clause-front : goal.returns-clause-front
returns-clause-front g c = inl refl

pub returns-clause-stops : goal.returns-clause-stops
returns-clause-stops g c = memory_of_sink
