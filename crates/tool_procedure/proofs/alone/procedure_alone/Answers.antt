use Rattle.tool_procedure.proofs.AloneLaws.{kept_alone}
use Rattle.tool_procedure.proofs.alone.procedure_alone.Goals as goal
use Rattle.tool_procedure.specs.Parts.{IsMadeAlone}
use Rattle.tool_procedure.specs.declared.alone.ProcedureResult.TheVariants as made
use Rattle.tool_procedure.specs.declared.alone.ProcedureTask.TheVariants as task

pub returns-in-Some-Program : goal.returns-in-Some-Program
returns-in-Some-Program c =
    let so : IsMadeAlone c.in-Ok.rest.now c.args.name.now task.Keep (made.Program c.in-Some-Program.program) =
    rw (c.in-Some-Program.is, c.in-Some-Program.field-0-is) at c.in_ok-program.ensures in
    kept_alone c.in-Ok.ensures c.requires so
