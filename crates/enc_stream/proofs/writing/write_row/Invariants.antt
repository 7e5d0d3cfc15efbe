use Rattle.std.proofs.Common.{◌≤◌, length, map, drop}
use Rattle.boogie_print.specs.Names.{names_of}
use Rattle.enc_expr.specs.Emits.{emit_of}
use Rattle.enc_units.specs.Rows.{row_text, row_asserts}
use Rattle.enc_units.specs.View.{coder_of, step_of}
use Rattle.enc_stream.proofs.SentLaws.{Sent}
use Rattle.enc_stream.proofs.writing.write_row.Given as goal

abbrev pub invariant-loop-step : goal.invariant-loop-step
invariant-loop-step g l = record {
  so_far : Sent (row_text (coder_of l.printer.writer) (names_of l.printer.names.now) (map step_of l.row) (length (emit_of l.initial.out).locals)) (row_asserts (coder_of l.printer.writer) (map step_of l.row) (length (emit_of l.initial.out).locals))
      (row_text (coder_of l.printer.writer) (names_of l.printer.names.now) (map step_of (drop l.step-index l.row)) (length (emit_of l.out).locals)) (row_asserts (coder_of l.printer.writer) (map step_of (drop l.step-index l.row)) (length (emit_of l.out).locals))
      (g.S.Sink.written l.initial.sink) (g.S.Sink.written l.sink) l.initial.written l.written;
  later : g.S.Sink.faults l.initial.sink ≤ g.S.Sink.faults l.sink;
}
