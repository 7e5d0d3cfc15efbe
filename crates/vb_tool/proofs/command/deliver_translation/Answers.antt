use Rattle.std.proofs.Common.{refl, ap, Err}
use Rattle.tool_common.specs.Written.{delivered, unwritten}
use Rattle.vb_tool.specs.Parts.{of_text, no_memory}
use Rattle.vb_tool.proofs.command.deliver_translation.Goals as goal

pub returns-in-Ok : goal.returns-in-Ok
returns-in-Ok g c = of_text (delivered c.in-Ok.ensures.text)

pub returns-in-Err-Memory : goal.returns-in-Err-Memory
returns-in-Err-Memory g c = no_memory c.in-Err-Memory.ensures.front

pub returns-in-Err-Failed : goal.returns-in-Err-Failed
returns-in-Err-Failed g c = of_text (unwritten refl c.in-Err-Failed.ensures.front (c.in-Err-Failed.ensures.failed (ap (λ e. Err e) c.in-Err-Failed.field-0-is)))
