use Rattle.std.proofs.Common.{length, map, drop}
use Rattle.boogie_print.specs.Names.{names_of}
use Rattle.enc_expr.specs.Emits.{emit_of}
use Rattle.enc_stream.specs.Counts.{Holds}
use Rattle.enc_units.specs.View.{coder_of, step_of}
use Rattle.enc_stream.proofs.holding.hold_row.Given as goal

abbrev pub invariant-loop-number : goal.invariant-loop-number
invariant-loop-number l = record {
  holds : Holds (coder_of l.printer.writer) (names_of l.printer.names.now) (map step_of l.row) (length (emit_of l.initial.out).locals) (map step_of (drop l.number l.row)) (length (emit_of l.out).locals)
      l.initial.lines.items l.lines.items l.initial.text.items l.text.items l.initial.written l.written;
}
