use Rattle.cert_terms.specs.Lawful.{terms_of, types_of}
use Rattle.std.proofs.Common.{Some, ap, refl, ◌∙◌}
use Rattle.std.proofs.lemmas.Result.{IfOk-weaker}
use Rattle.cert_rules.proofs.GateLaws.{place_case_law}
use Rattle.cert_rules.proofs.truths.place_case.Goals as goal

pub returns-in-If : goal.returns-in-If
returns-in-If c =
    let sides = c.in_ok-sides.sides in
    let place = c.in_ok-place.place in
    let other = c.in_ok-other.other in
    IfOk-weaker c.chosen.result _ _ (place_case_law (terms_of c.args.table.now) (types_of c.args.table.now) c.args.name place.map other.map sides.left sides.right _ c.in-If.condition c.in-If.first c.in-If.second
    place.keys.now other.keys.now c.in_ok-sides.ensures c.in_ok-place.ensures c.in_ok-other.ensures (c.if-not-same_literals.ensures refl) (c.in_ok-term.ensures ∙ ap Some c.in-If.is) c.of.ensures) c.chosen.ensures
