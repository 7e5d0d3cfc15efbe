use Rattle.std.proofs.Common.{refl}
use Rattle.prove_tool.specs.Ends.{written}
use Rattle.prove_tool.proofs.StreamLaws.{sink_stops}
use Rattle.prove_tool.proofs.command.conditions_of.Goals as goal

pub returns-in-Ok : goal.returns-in-Ok
returns-in-Ok g c = let told = c.in-Ok.ensures.whole in written {text = told.0} (refl, told.1) told.2

pub returns-in-Err : goal.returns-in-Err
returns-in-Err g c = sink_stops c.in-Err.ensures.front c.in-Err.status c.in-Err.ensures.stops
