use Rattle.std.proofs.Common.{length, map, arith}
use Rattle.boogie_print.specs.Names.{names_of}
use Rattle.enc_expr.specs.Emits.{emit_of}
use Rattle.enc_units.specs.View.{coder_of, step_of}
use Rattle.enc_stream.proofs.HoldLaws.{holds_more}
use Rattle.enc_units.proofs.PassLaws.{step_is}
use Rattle.enc_stream.proofs.holding.hold_row.Goals as goal

pub hold_step-requires : goal.hold_step-requires
hold_step-requires c =
    step_is c.args.row.now c.loop-number.number c.index-row-number.result c.requires (omega (arith, c.loop-number-test.true, c.loop-number.auto.number-end)) c.index-row-number.is

pub loop-number-preserved : goal.loop-number-preserved
loop-number-preserved c = record {
  holds = holds_more (coder_of c.args.printer.writer) (names_of c.args.printer.names.now) (map step_of c.args.row.now) (length (emit_of c.args.out.now).locals) c.args.row.now c.loop-number.number c.index-row-number.result
      (length (emit_of c.loop-number.out).locals) (length (emit_of c.hold_step.new.out).locals) c.args.lines.now.items c.loop-number.lines.items c.hold_step.new.lines.items c.args.text.now.items c.loop-number.text.items c.hold_step.new.text.items
      c.args.written.now c.loop-number.written c.hold_step.new.written (omega (arith, c.loop-number-test.true, c.loop-number.auto.number-end)) c.index-row-number.is c.in_ok-hold_step.ensures c.loop-number.invariant.holds;
}
