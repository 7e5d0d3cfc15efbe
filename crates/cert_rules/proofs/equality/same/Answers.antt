use Rattle.cert_terms.specs.Lawful.{terms_of, types_of}
use Rattle.std.proofs.Common.{◌≡◌, refl, subst}
use Rattle.std.proofs.lemmas.Result.{IfOk-weaker}
use Rattle.cert_rules.specs.Reasons.{values_of, IsLawUnless}
use Rattle.cert_rules.proofs.ClauseLaws.{law_if}
use Rattle.cert_rules.proofs.EqualityLaws.{same_law}
use Rattle.cert_rules.proofs.equality.same.Goals as goal

pub returns : goal.returns
returns c =
    let terms = terms_of c.args.table.now in
    let types = types_of c.args.table.now in
    let sides = c.in_ok-sides.sides in
    let left = c.in_ok-left.left in
    let right = c.in_ok-right.right in
    let items = c.in_ok-clause.clause.items in
    let equal = subst (λ qs. IsLawUnless terms types items (λ values. values_of values left.parts.items ≡ values_of values qs)) c.deref-2.ensures.value
    (subst (λ ps. IsLawUnless terms types items (λ values. values_of values ps ≡ values_of values c.deref-2.result.now)) c.deref.ensures.value c.in_ok-clause.ensures) in
    let law = same_law terms types items c.args.name sides.left sides.right left.head right.head left.parts.items right.parts.items c.in_ok-sides.ensures c.in_ok-left.ensures c.in_ok-right.ensures
    (c.if-not-is_same.ensures refl) equal in
    IfOk-weaker c.closed.result _ _ (law_if terms types _ law) c.closed.ensures
