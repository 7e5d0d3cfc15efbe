use Rattle.std.proofs.Common.{◌++◌, ◌+◌, ◌<◌, [], refl, subst, sym, arith}
use Rattle.vb_outer.proofs.SinkLaws.{appends_nothing, appends_both}
use Rattle.prove_tool.specs.Parts.{subject_of}
use Rattle.prove_tool.specs.Subject.{count_of}
use Rattle.prove_tool.specs.Written.{AreFound, no_unit, one_unit_more}
use Rattle.prove_tool.proofs.StreamLaws.{front_found, sink_earlier}
use Rattle.prove_tool.proofs.streams.write_certificates.Goals as goal

pub loop-unit-init : goal.loop-unit-init
loop-unit-init g c = record { written = ([], no_unit, appends_nothing _ _ refl); later = omega arith }

pub write_certificate-requires-clause-exists : goal.write_certificate-requires-clause-exists
write_certificate-requires-clause-exists g c = omega (arith, c.count-unit-end.ensures)

pub returns-in-Err-clause-front : goal.returns-in-Err-clause-front
returns-in-Err-clause-front g c =
    let so_far = c.loop-unit.invariant.written in
    let exists : c.loop-unit.unit < count_of (subject_of c.args.program.now) = omega (arith, c.count-unit-end.ensures) in
    front_found (subject_of c.args.program.now) c.loop-unit.unit c.loop-unit.all _ _ _ so_far.0 exists so_far.1 so_far.2 c.in-Err.ensures.front

pub returns-in-Err-clause-stops : goal.returns-in-Err-clause-stops
returns-in-Err-clause-stops g c = sink_earlier _ _ _ c.loop-unit.invariant.later c.in-Err.status c.in-Err.ensures.stops

pub loop-unit-preserved : goal.loop-unit-preserved
loop-unit-preserved g c =
    let so_far = c.loop-unit.invariant.written in
    let more = c.in-Ok.ensures.whole in
    let exists : c.loop-unit.unit < count_of (subject_of c.args.program.now) = omega (arith, c.count-unit-end.ensures) in
    let found = one_unit_more c.in-Ok.found more.0 exists so_far.1 more.1 in
    record {
      written = (
        so_far.0 ++ more.0,
        subst (λ all. AreFound (subject_of c.args.program.now) (c.loop-unit.unit + 1) all (so_far.0 ++ more.0)) (sym c.both-all.ensures) found,
        appends_both _ _ _ so_far.0 more.0 so_far.2 more.2,
      );
      later = omega (arith, c.loop-unit.invariant.later, c.in-Ok.ensures.later);
    }
