use Rattle.std.proofs.Common.{◌<◌, ◌≤◌, length, get_or, arith}
use Rattle.cert_rules.specs.Reasons.{yes}
use Rattle.cert_rules.proofs.ListLaws.{take_more, take_whole}
use Rattle.cert_rules.proofs.RefuteLaws.{literals_same, not_apart}
use Rattle.cert_rules.proofs.reading.same_literals.Goals as goal

pub loop-place-preserved : goal.loop-place-preserved
loop-place-preserved c =
    let h : c.loop-place.place < length c.args.left.now = omega arith in
    let g : c.loop-place.place < length c.args.right.now = omega arith in
    let e = literals_same (get_or c.args.left.now c.loop-place.place (yes 0)) (get_or c.args.right.now c.loop-place.place (yes 0)) (not_apart _ _ c.ne.ensures c.if-ne.false) in
    take_more c.args.left.now c.args.right.now c.loop-place.place h g c.loop-place.invariant e

pub returns : goal.returns
returns c =
    let h : length c.args.left.now ≤ c.loop-place.place = omega arith in
    let g : length c.args.right.now ≤ c.loop-place.place = omega arith in
    λ t. take_whole c.args.left.now c.args.right.now c.loop-place.place h g c.loop-place.invariant
