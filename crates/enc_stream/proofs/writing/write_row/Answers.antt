use Rattle.std.proofs.Common.{◌+◌, ◌<◌, length, map, drop, refl, subst, arith}
use Rattle.vb_outer.specs.Sink.{Appends, AppendsPrefix}
use Rattle.vb_outer.proofs.SinkLaws.{prefix_none}
use Rattle.boogie_print.specs.Asserts.{asserts_in}
use Rattle.boogie_print.specs.Names.{names_of}
use Rattle.enc_expr.specs.Emits.{emit_of}
use Rattle.enc_units.specs.Rows.{row_text, row_asserts}
use Rattle.enc_units.specs.View.{coder_of, step_of}
use Rattle.enc_units.proofs.PassLaws.{step_is}
use Rattle.enc_stream.proofs.SentLaws.{any_err, sent_front, sent_more, sent_part, step_text_first, step_asserts_first}
use Rattle.enc_stream.proofs.writing.write_row.Goals as goal

pub step_text-requires : goal.step_text-requires
step_text-requires g c =
    step_is c.args.row.now c.loop-step.step-index c.step-item.result c.requires (omega (arith, c.loop-step-test.true, c.loop-step.auto.step-index-end)) c.step-item.is

pub returns-in_err-step_text-clause-front : goal.returns-in_err-step_text-clause-front
returns-in_err-step_text-clause-front g c =
    any_err c.from_residual.result (sent_front c.loop-step.invariant.so_far (g.S.Sink.written c.loop-step.sink) (prefix_none (g.S.Sink.written c.loop-step.sink) (g.S.Sink.written c.loop-step.sink) _ refl))

pub returns-in_err-write_all-clause-front : goal.returns-in_err-write_all-clause-front
returns-in_err-write_all-clause-front g c =
    let within : c.loop-step.step-index < length c.args.row.now = omega (arith, c.loop-step-test.true, c.loop-step.auto.step-index-end) in
    let rest = map step_of (drop (c.loop-step.step-index + 1) c.args.row.now) in let k = length (emit_of c.step_text.new.out).locals in
    any_err c.from_residual-in_err-write_all.result
    (sent_part c.loop-step.invariant.so_far c.step_text.new.text.items (row_text (coder_of c.args.printer.writer) (names_of c.args.printer.names.now) rest k) (g.S.Sink.written c.write_all.new.sink)
    (step_text_first (coder_of c.args.printer.writer) (names_of c.args.printer.names.now) c.args.row.now c.loop-step.step-index c.step-item.result (length (emit_of c.loop-step.out).locals) k
    c.loop-step.written c.step_text.new.written c.step_text.new.text.items within c.step-item.is c.in_ok-step_text.ensures)
    (subst (λ text. AppendsPrefix (g.S.Sink.written c.loop-step.sink) (g.S.Sink.written c.write_all.new.sink) text) c.deref.ensures.value c.in_err-write_all.ensures.failed))

pub loop-step-preserved : goal.loop-step-preserved
loop-step-preserved g c =
    let within : c.loop-step.step-index < length c.args.row.now = omega (arith, c.loop-step-test.true, c.loop-step.auto.step-index-end) in
    let code = coder_of c.args.printer.writer in let names = names_of c.args.printer.names.now in let rest = map step_of (drop (c.loop-step.step-index + 1) c.args.row.now) in let m = length (emit_of c.loop-step.out).locals in let k = length (emit_of c.step_text.new.out).locals in
    record {
      so_far = sent_more c.loop-step.invariant.so_far c.step_text.new.text.items (row_text code names rest k) (asserts_in (code (step_of c.step-item.result) m).stmts) (row_asserts code rest k) (g.S.Sink.written c.write_all.new.sink) c.step_text.new.written
          (step_text_first code names c.args.row.now c.loop-step.step-index c.step-item.result m k c.loop-step.written c.step_text.new.written c.step_text.new.text.items within c.step-item.is c.in_ok-step_text.ensures)
          (step_asserts_first code names c.args.row.now c.loop-step.step-index c.step-item.result m k c.loop-step.written c.step_text.new.written c.step_text.new.text.items within c.step-item.is c.in_ok-step_text.ensures)
          (subst (λ text. Appends (g.S.Sink.written c.loop-step.sink) (g.S.Sink.written c.write_all.new.sink) text) c.deref.ensures.value c.in_ok-write_all.ensures.ok)
          c.in_ok-step_text.ensures.counted;
      later = omega (arith, c.loop-step.invariant.later, c.in_ok-write_all.ensures.cause.later);
    }
