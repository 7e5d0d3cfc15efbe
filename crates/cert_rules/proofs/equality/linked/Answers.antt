use Rattle.cert_terms.specs.Lawful.{terms_of, types_of}
use Rattle.std.proofs.Common.{◌≡◌, ◌<◌, ◌≤◌, length, arith}
use Rattle.cert_rules.proofs.EqualityLaws.{linked_more, linked_all}
use Rattle.cert_rules.proofs.equality.linked.Goals as goal

pub loop-place-preserved : goal.loop-place-preserved
loop-place-preserved c =
    let h : c.loop-place.place < length c.args.left.now = omega arith in
    let e : length c.args.left.now ≡ length c.args.right.now = omega arith in
    linked_more (terms_of c.args.table.now) (types_of c.args.table.now) c.args.left.now c.args.right.now c.loop-place.clause.items c.link.new.clause.items c.loop-place.place h e c.loop-place.invariant
    c.in_ok-after.ensures.longer c.in_ok-after.ensures.equal

pub returns : goal.returns
returns c =
    let h : length c.args.left.now ≤ c.loop-place.place = omega arith in
    let g : length c.args.right.now ≤ c.loop-place.place = omega arith in
    linked_all (terms_of c.args.table.now) (types_of c.args.table.now) c.args.left.now c.args.right.now c.loop-place.clause.items c.loop-place.place h g c.loop-place.invariant
