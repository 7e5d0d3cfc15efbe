use Rattle.std.proofs.Common.{◌≤◌, drop, map}
use Rattle.viper_core.specs.View.{program_of}
use Rattle.boogie_grammar.specs.Printed.{procs_text}
use Rattle.boogie_print.specs.Asserts.{asserts_in_procs}
use Rattle.enc_units.specs.Translates.{program_code}
use Rattle.enc_units.specs.Units.{unit_procedure}
use Rattle.enc_stream.proofs.SentLaws.{Sent}
use Rattle.enc_stream.proofs.stream.write_units.Given as goal

abbrev pub invariant-loop-number : goal.invariant-loop-number
invariant-loop-number g l = record {
  so_far : Sent (procs_text (program_code (program_of l.program)).procs) (asserts_in_procs (program_code (program_of l.program)).procs)
      (procs_text (map (unit_procedure (program_of l.program)) (drop l.number l.program.units.items))) (asserts_in_procs (map (unit_procedure (program_of l.program)) (drop l.number l.program.units.items)))
      (g.S.Sink.written l.initial.sink) (g.S.Sink.written l.sink) l.initial.written l.written;
  later : g.S.Sink.faults l.initial.sink ≤ g.S.Sink.faults l.sink;
}
