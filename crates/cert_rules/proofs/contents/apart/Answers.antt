use Rattle.cert_terms.specs.Lawful.{terms_of, types_of}
use Rattle.std.proofs.Common.{refl}
use Rattle.std.proofs.lemmas.Result.{IfOk-weaker}
use Rattle.cert_rules.specs.Reasons.{no}
use Rattle.cert_rules.proofs.ClauseLaws.{one_law}
use Rattle.cert_rules.proofs.ContentLaws.{apart_law}
use Rattle.cert_rules.proofs.contents.apart.Goals as goal

pub returns : goal.returns
returns c =
    let terms = terms_of c.args.table.now in
    let types = types_of c.args.table.now in
    let sides = c.in_ok-sides.sides in
    let left = c.in_ok-left.left in
    let right = c.in_ok-right.right in
    IfOk-weaker c.one.result _ _ (one_law terms types c.no.result (no c.args.name) c.no.ensures
    (λ values typed model. apart_law terms types values typed model c.args.name sides.left sides.right left.head right.head left.parts.items right.parts.items c.in_ok-sides.ensures c.in_ok-left.ensures
    c.in_ok-right.ensures (c.if-not-are_apart.ensures refl))) c.one.ensures
