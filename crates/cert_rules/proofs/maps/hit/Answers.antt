use Rattle.cert_terms.specs.Lawful.{terms_of, types_of}
use Rattle.std.proofs.Common.{subst}
use Rattle.std.proofs.lemmas.Result.{IfOk-weaker}
use Rattle.cert_rules.specs.Reasons.{IsChange}
use Rattle.cert_rules.proofs.ClauseLaws.{law_if}
use Rattle.cert_rules.proofs.EqualityLaws.{hit_law}
use Rattle.cert_rules.proofs.RefuteLaws.{literals_same, not_apart}
use Rattle.cert_rules.proofs.maps.hit.Goals as goal

pub returns : goal.returns
returns c =
    let terms = terms_of c.args.table.now in
    let types = types_of c.args.table.now in
    let sides = c.in_ok-sides.sides in
    let place = c.in_ok-place.place in
    let change = c.in_ok-change.change in
    let value = literals_same change.value sides.right (not_apart _ _ c.ne.ensures c.if-ne.false) in
    let law = hit_law terms types c.in_ok-clause.clause.items c.args.name sides.left sides.right place.map change.map place.keys.now change.keys.now c.in_ok-sides.ensures c.in_ok-place.ensures
    (subst (IsChange terms place.map change.map change.keys.now) value c.in_ok-change.ensures) c.in_ok-clause.ensures in
    IfOk-weaker c.closed.result _ _ (law_if terms types _ law) c.closed.ensures
