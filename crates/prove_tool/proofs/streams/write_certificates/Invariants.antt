use Rattle.std.proofs.Common.{◌≤◌, ℕ, List}
use Rattle.vb_outer.specs.Sink.{Appends}
use Rattle.prove_tool.specs.Parts.{subject_of}
use Rattle.prove_tool.specs.Written.{AreFound}
use Rattle.prove_tool.proofs.streams.write_certificates.Given as goal

abbrev pub invariant-loop-unit : goal.invariant-loop-unit
invariant-loop-unit g l = record {
  written : (text : List ℕ) × AreFound (subject_of l.program) l.unit l.all text × Appends (g.O.Sink.written l.initial.out) (g.O.Sink.written l.out) text;
  later : g.O.Sink.faults l.initial.out ≤ g.O.Sink.faults l.out;
}
