use Rattle.std.proofs.Common.{subst}
use Rattle.tool_procedure.proofs.AloneLaws.{ended_is}
use Rattle.tool_procedure.proofs.alone.replayed_alone.Goals as goal
use Rattle.tool_procedure.specs.Parts.{IsMadeAlone}
use Rattle.tool_procedure.specs.declared.alone.ProcedureResult.TheVariants as made
use Rattle.tool_procedure.specs.declared.alone.ProcedureTask.TheVariants as task

pub returns-in-Some-Outcome : goal.returns-in-Some-Outcome
returns-in-Some-Outcome c =
    let outcome = c.in-Some-Outcome.outcome in
    let so : IsMadeAlone c.in-Ok-after_prelude.rest.now c.bytes.result.now (task.Run c.args.run_bytes) (made.Outcome outcome) =
    rw (c.in-Some-Outcome.is, c.in-Some-Outcome.field-0-is) at c.in_ok-outcome.ensures in
    let named = subst (λ n. IsMadeAlone c.in-Ok-after_prelude.rest.now n (task.Run c.args.run_bytes) (made.Outcome outcome)) c.bytes.ensures so in
    ended_is c.in-Ok-after_prelude.ensures c.requires.bytes_within c.in-Ok.ensures.name named
