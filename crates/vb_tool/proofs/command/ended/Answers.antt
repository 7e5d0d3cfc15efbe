use Rattle.std.proofs.Common.{IfOk, refl, subst}
use Rattle.vb_tool.specs.Parts.{CanBeWritten}
use Rattle.vb_tool.proofs.command.ended.Goals as goal

pub deliver_work-requires : goal.deliver_work-requires
deliver_work-requires g c = subst (λ r. IfOk r (λ w. CanBeWritten w)) c.in-Ok.is c.requires

pub returns-in-Ok : goal.returns-in-Ok
returns-in-Ok g c = rw c.in-Ok.is (c.deliver_work.ensures, refl)

pub returns-in-Err : goal.returns-in-Err
returns-in-Err g c = rw c.in-Err.is (c.report.ensures _ c.line.ensures, refl)
