use Rattle.std.proofs.Common.{◌≡◌, ◌∙◌, ◌++◌, ◌-◌, length, take, drop, arith, length-drop}
use Rattle.std.proofs.lemmas.Result.{err_from_is_err_and}
use Rattle.std.proofs.lemmas.List.{take_all}
use Rattle.vb_outer.proofs.SinkLaws.{appends_both, written_more}
use Rattle.vb_outer.proofs.sink.write_all.Goals as goal

pub returns-in_err-count-clause-failed : goal.returns-in_err-count-clause-failed
returns-in_err-count-clause-failed g c =
    let p = err_from_is_err_and c.from_residual.result c.from_residual.ensures.1 in
    let so_far = c.loop-rest.invariant.so_far in
    rw p.1 (so_far.0, c.loop-rest.rest.now, so_far.1, c.in_err-count.ensures.bytes ∙ so_far.2)

pub loop-rest-preserved : goal.loop-rest-preserved
loop-rest-preserved g c =
    let so_far = c.loop-rest.invariant.so_far in
    let rest = c.loop-rest.rest.now in
    let n = c.in_ok-count.count in
    let whole : take (length rest - n) (drop n rest) ≡ drop n rest = take_all _ _ (omega (arith, length-drop n rest)) in
    record {
      so_far = (so_far.0 ++ take n rest, rw whole (written_more c.args.bytes.now so_far.0 rest n so_far.1), appends_both _ _ _ so_far.0 (take n rest) so_far.2 c.in_ok-count.ensures.bytes.1);
      later = omega (arith, c.loop-rest.invariant.later, c.in_ok-count.ensures.cause.later);
    }
