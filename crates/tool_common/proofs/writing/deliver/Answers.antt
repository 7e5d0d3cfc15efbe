use Rattle.tool_common.specs.Written.{delivered, unwritten}
use Rattle.tool_common.proofs.writing.deliver.Goals as goal

pub returns-in-Ok : goal.returns-in-Ok
returns-in-Ok g c = delivered c.in-Ok.ensures.ok

pub returns-in-Err : goal.returns-in-Err
returns-in-Err g c = unwritten c.write_fault.ensures c.in-Err.ensures.failed c.in-Err.ensures.cause.failed
