use Rattle.std.proofs.Common.{◌≡◌, ◌+◌, Some, map, drop, slice_get, subst, arith}
use Rattle.viper_core.specs.View.{program_of}
use Rattle.boogie_grammar.specs.Printed.{proc_text, procs_text}
use Rattle.boogie_print.specs.Asserts.{asserts_in, asserts_in_procs}
use Rattle.enc_units.specs.Units.{unit_procedure}
use Rattle.enc_stream.proofs.SentLaws.{any_err, sent_nothing, sent_more, sent_part}
use Rattle.enc_stream.proofs.StreamLaws.{procs_text_first, procs_asserts_first}
use Rattle.enc_stream.proofs.stream.write_units.Goals as goal

pub write_unit-requires : goal.write_unit-requires
write_unit-requires g c = record {
  formed = c.requires;
  exists = (c.loop-number.number, subst (λ vs. slice_get vs c.loop-number.number ≡ Some c.unit_at-unit.result) c.deref.ensures.value c.unit_at-unit.ensures);
}

pub loop-number-init : goal.loop-number-init
loop-number-init g c = record {
  so_far = sent_nothing _ _ (g.S.Sink.written c.args.sink.now) c.args.written.now (omega arith) (omega arith);
  later = omega arith;
}

pub returns-in_err-write_unit-clause-front : goal.returns-in_err-write_unit-clause-front
returns-in_err-write_unit-clause-front g c =
    let p = program_of c.args.program.now in let us = c.args.program.now.units.items in let i = c.loop-number.number in let x = c.unit_at-unit.result in
    let here : slice_get us i ≡ Some x = subst (λ vs. slice_get vs i ≡ Some x) c.deref.ensures.value c.unit_at-unit.ensures in
    any_err c.from_residual.result
    (sent_part c.loop-number.invariant.so_far (proc_text (unit_procedure p x)) (procs_text (map (unit_procedure p) (drop (i + 1) us))) (g.S.Sink.written c.write_unit.new.sink)
    (procs_text_first p us i x here) c.in_err-write_unit.ensures.front)

pub loop-number-preserved : goal.loop-number-preserved
loop-number-preserved g c =
    let p = program_of c.args.program.now in let us = c.args.program.now.units.items in let i = c.loop-number.number in let x = c.unit_at-unit.result in
    let here : slice_get us i ≡ Some x = subst (λ vs. slice_get vs i ≡ Some x) c.deref.ensures.value c.unit_at-unit.ensures in
    record {
      so_far = sent_more c.loop-number.invariant.so_far (proc_text (unit_procedure p x)) (procs_text (map (unit_procedure p) (drop (i + 1) us)))
          (asserts_in (unit_procedure p x).body) (asserts_in_procs (map (unit_procedure p) (drop (i + 1) us))) (g.S.Sink.written c.write_unit.new.sink) c.write_unit.new.written
          (procs_text_first p us i x here) (procs_asserts_first p us i x here) c.in_ok-write_unit.ensures.ok c.in_ok-write_unit.ensures.counts;
      later = omega (arith, c.loop-number.invariant.later, c.in_ok-write_unit.ensures.later);
    }
