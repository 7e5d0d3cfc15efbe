use Rattle.std.proofs.Common.{◌∙◌, ◌+◌, ◌<◌, length, map, drop, ap, subst, refl, arith}
use Rattle.vb_outer.specs.Sink.{Appends, AppendsPrefix}
use Rattle.vb_outer.proofs.SinkLaws.{prefix_none}
use Rattle.enc_expr.specs.Emits.{emit_of}
use Rattle.enc_stream.specs.Counts.{counts}
use Rattle.enc_units.specs.Rows.{row_lines}
use Rattle.enc_units.specs.View.{coder_of, step_of}
use Rattle.enc_stream.proofs.HeadLaws.{lines_first}
use Rattle.enc_units.proofs.PassLaws.{step_is}
use Rattle.enc_stream.proofs.SentLaws.{any_err, sent_front, sent_more, sent_part}
use Rattle.enc_stream.proofs.heads.write_lines.Goals as goal

pub step_lines-requires : goal.step_lines-requires
step_lines-requires g c =
    step_is c.args.row.now c.loop-step.step-index c.step-item.result c.requires (omega (arith, c.loop-step-test.true, c.loop-step.auto.step-index-end)) c.step-item.is

pub returns-in_err-step_lines-clause-front : goal.returns-in_err-step_lines-clause-front
returns-in_err-step_lines-clause-front g c =
    any_err c.from_residual.result (sent_front c.loop-step.invariant.so_far (g.S.Sink.written c.loop-step.sink) (prefix_none (g.S.Sink.written c.loop-step.sink) (g.S.Sink.written c.loop-step.sink) _ refl))

pub returns-in_err-write_all-clause-front : goal.returns-in_err-write_all-clause-front
returns-in_err-write_all-clause-front g c =
    let within : c.loop-step.step-index < length c.args.row.now = omega (arith, c.loop-step-test.true, c.loop-step.auto.step-index-end) in
    let code = coder_of c.args.writer in let rest = map step_of (drop (c.loop-step.step-index + 1) c.args.row.now) in
    let m = length (emit_of c.loop-step.out).locals in let k = length (emit_of c.step_lines.new.out).locals in
    any_err c.from_residual-in_err-write_all.result
    (sent_part c.loop-step.invariant.so_far c.step_lines.new.text.items (row_lines code rest k) (g.S.Sink.written c.write_all.new.sink)
    (lines_first code c.args.row.now c.loop-step.step-index c.step-item.result m k c.step_lines.new.text.items within c.step-item.is c.in_ok-step_lines.ensures)
    (subst (λ text. AppendsPrefix (g.S.Sink.written c.loop-step.sink) (g.S.Sink.written c.write_all.new.sink) text) c.deref.ensures.value c.in_err-write_all.ensures.failed))

pub loop-step-preserved : goal.loop-step-preserved
loop-step-preserved g c =
    let within : c.loop-step.step-index < length c.args.row.now = omega (arith, c.loop-step-test.true, c.loop-step.auto.step-index-end) in
    let code = coder_of c.args.writer in let rest = map step_of (drop (c.loop-step.step-index + 1) c.args.row.now) in
    let m = length (emit_of c.loop-step.out).locals in let k = length (emit_of c.step_lines.new.out).locals in
    record {
      so_far = sent_more c.loop-step.invariant.so_far c.step_lines.new.text.items (row_lines code rest k) 0 0 (g.S.Sink.written c.write_all.new.sink) c.with_text.result
          (lines_first code c.args.row.now c.loop-step.step-index c.step-item.result m k c.step_lines.new.text.items within c.step-item.is c.in_ok-step_lines.ensures)
          refl
          (subst (λ text. Appends (g.S.Sink.written c.loop-step.sink) (g.S.Sink.written c.write_all.new.sink) text) c.deref.ensures.value c.in_ok-write_all.ensures.ok)
          (c.with_text.ensures ∙ ap (λ text. counts c.loop-step.written (length text) 0) c.deref-in-loop-step.ensures.value);
      later = omega (arith, c.loop-step.invariant.later, c.in_ok-write_all.ensures.cause.later);
    }
