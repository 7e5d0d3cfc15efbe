use Rattle.cert_terms.specs.Lawful.{terms_of, types_of}
use Rattle.std.proofs.Common.{refl, subst}
use Rattle.std.proofs.lemmas.Result.{IfOk-weaker}
use Rattle.cert_rules.specs.Reasons.{yes, no, IsAmong}
use Rattle.cert_rules.proofs.ClauseLaws.{two_law}
use Rattle.cert_rules.proofs.ContentLaws.{part_law}
use Rattle.cert_rules.proofs.contents.part.Goals as goal

pub returns : goal.returns
returns c =
    let terms = terms_of c.args.table.now in
    let types = types_of c.args.table.now in
    let sides = c.in_ok-sides.sides in
    let left = c.in_ok-left.left in
    let right = c.in_ok-right.right in
    let between = c.in_ok-between.between in
    let among = subst (λ qs. IsAmong left.parts.items qs between.left between.right) c.deref-2.ensures.value
    (subst (λ ps. IsAmong ps c.deref-2.result.now between.left between.right) c.deref.ensures.value (c.if-not-is_among.ensures refl)) in
    IfOk-weaker c.two.result _ _ (two_law terms types c.no.result c.of.result (no c.args.name) (yes c.args.hint) c.no.ensures c.of.ensures
    (λ values typed model. part_law terms types values typed model c.args.name c.args.hint sides.left sides.right between.left between.right left.head right.head left.parts.items right.parts.items
    c.in_ok-sides.ensures c.in_ok-left.ensures c.in_ok-right.ensures c.in_ok-between.ensures among)) c.two.ensures
