use Rattle.std.proofs.Common.{sym, ◌∙◌}
use Rattle.cert_definitions.proofs.ReadLaws.{signed_some, signed_none}
use Rattle.cert_definitions.proofs.parts.sides_of.Goals as goal

pub returns-in-Some : goal.returns-in-Some
returns-in-Some c = λ go. c.put_by.ensures go ∙ signed_some _ _ _ _ _ (sym c.is_signed.ensures ∙ c.if-not-is_signed.false) c.in-Some.ensures

pub returns-in-None : goal.returns-in-None
returns-in-None c = λ go. signed_none _ _ _ _ (sym c.is_signed.ensures ∙ c.if-not-is_signed.false) c.in-None.ensures
