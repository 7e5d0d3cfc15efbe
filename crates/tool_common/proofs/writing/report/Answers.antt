use Rattle.std.proofs.Common.{◌≡◌, ◌∙◌, IfOk, refl, subst}
use Rattle.std.specs.String.{string_bytes}
use Rattle.tool_common.specs.Written.{said, no_memory}
use Rattle.tool_common.proofs.EndLaws.{delivers_same}
use Rattle.tool_common.proofs.writing.report.Goals as goal

pub returns-in-Ok : goal.returns-in-Ok
returns-in-Ok g c text is = said (delivers_same (c.as_bytes.ensures.value ∙ subst (λ r. IfOk r (λ l. string_bytes l ≡ text)) c.in-Ok.is is) c.deliver.ensures)

pub returns-in-Err : goal.returns-in-Err
returns-in-Err g c text is = no_memory c.no_memory.ensures refl
