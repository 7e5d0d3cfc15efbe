use Rattle.std.proofs.Common.{inr, refl}
use Rattle.vb_outer.proofs.SinkLaws.{prefix_all}
use Rattle.prove_tool.specs.Ends.{written}
use Rattle.prove_tool.proofs.StreamLaws.{sink_stops}
use Rattle.prove_tool.proofs.command.values_of.Goals as goal

pub returns-in-Ok : goal.returns-in-Ok
returns-in-Ok g c = let told = c.write_values.ensures.written in written {text = told.0} refl told.1

pub returns-in-Err : goal.returns-in-Err
returns-in-Err g c = let told = c.write_values.ensures.written in sink_stops (inr (told.0, tt, prefix_all _ _ told.0 told.1)) c.in-Err.status c.in-Err.ensures.stops
