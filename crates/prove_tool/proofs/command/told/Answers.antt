use Rattle.std.proofs.Common.{inl, refl}
use Rattle.prove_tool.specs.Ends.{no_memory}
use Rattle.prove_tool.proofs.StreamLaws.{lines_told}
use Rattle.prove_tool.proofs.command.told.Goals as goal

pub returns-in-Ok : goal.returns-in-Ok
returns-in-Ok g c = lines_told c.args.answers.now c.status_of.ensures c.in-Ok.ensures (rw (← c.deref.ensures.value) c.deliver.ensures)

pub returns-in-Err : goal.returns-in-Err
returns-in-Err g c = no_memory (inl refl)
