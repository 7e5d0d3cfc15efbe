use Rattle.cert_terms.specs.Lawful.{terms_of, types_of}
use Rattle.std.proofs.Common.{◌<◌, arith}
use Rattle.std.proofs.lemmas.Result.{IfOk-weaker}
use Rattle.cert_rules.specs.Reasons.{no}
use Rattle.cert_rules.proofs.ClauseLaws.{one_law}
use Rattle.cert_rules.proofs.ContentLaws.{inside_law, below_none, below_more}
use Rattle.cert_rules.proofs.RefuteLaws.{literals_same, not_apart}
use Rattle.cert_rules.proofs.contents.inside.Goals as goal

pub loop-place-init : goal.loop-place-init
loop-place-init c = below_none (terms_of c.args.table.now) (types_of c.args.table.now) c.in_ok-sides.sides.right

pub loop-place-preserved : goal.loop-place-preserved
loop-place-preserved c =
    below_more (terms_of c.args.table.now) (types_of c.args.table.now) c.in_ok-sides.sides.right c.loop-place.at c.in_ok-next.next c.loop-place.place-index _ c.loop-place.invariant c.in_ok-next.ensures

pub returns : goal.returns
returns c =
    let terms = terms_of c.args.table.now in
    let types = types_of c.args.table.now in
    let sides = c.in_ok-sides.sides in
    let there = literals_same c.loop-place.at sides.left (not_apart _ _ c.ne.ensures c.if-ne.false) in
    let some : 0 < c.loop-place.place-index = omega arith in
    IfOk-weaker c.one.result _ _ (one_law terms types c.no.result (no c.args.name) c.no.ensures
    (inside_law terms types c.args.name sides.left sides.right c.loop-place.at c.loop-place.place-index c.in_ok-sides.ensures c.loop-place.invariant some there)) c.one.ensures
