use Rattle.std.proofs.Common.{arith}
use Rattle.prove_tool.proofs.StreamLaws.{both_written, sink_earlier}
use Rattle.prove_tool.proofs.streams.write_values.Goals as goal

pub returns-in-Err-clause-written : goal.returns-in-Err-clause-written
returns-in-Err-clause-written g c = both_written _ _ _ c.loop-unit.invariant.written c.in-Err.ensures.written

pub returns-in-Err-clause-stops : goal.returns-in-Err-clause-stops
returns-in-Err-clause-stops g c = sink_earlier _ _ _ c.loop-unit.invariant.later c.in-Err.status c.in-Err.ensures.stops

pub loop-unit-preserved : goal.loop-unit-preserved
loop-unit-preserved g c =
    record {
      written = both_written _ _ _ c.loop-unit.invariant.written c.in-Ok.ensures.written;
      later = omega (arith, c.loop-unit.invariant.later, c.in-Ok.ensures.later);
    }
