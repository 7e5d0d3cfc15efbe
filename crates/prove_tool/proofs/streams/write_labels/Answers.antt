use Rattle.prove_tool.specs.Parts.{memory_of_sink, unwritten_of_sink}
use Rattle.prove_tool.proofs.streams.write_labels.Goals as goal

pub returns-in-Ok-clause-stops : goal.returns-in-Ok-clause-stops
returns-in-Ok-clause-stops g c = unwritten_of_sink c.in-Err-write_all.ensures.cause.failed

pub returns-clause-stops : goal.returns-clause-stops
returns-clause-stops g c = memory_of_sink
