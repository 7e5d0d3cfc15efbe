use Rattle.std.proofs.Common.{◌<◌, length, arith, refl}
use Rattle.cert_rules.proofs.ListLaws.{among_at}
use Rattle.cert_rules.proofs.reading.is_among.Goals as goal

pub returns-then-is_between : goal.returns-then-is_between
returns-then-is_between c =
    let h : c.loop-place.place < length c.args.left.now = omega arith in
    let g : c.loop-place.place < length c.args.right.now = omega arith in
    λ t. among_at c.args.left.now c.args.right.now c.loop-place.place c.args.sides.left c.args.sides.right h g (c.if-is_between.ensures refl)
