use Rattle.cert_terms.specs.Lawful.{terms_of, types_of}
use Rattle.std.proofs.Common.{◌≡◌, ◌∙◌, ◌++◌, ◌∷◌, [], ap, refl, sym, subst}
use Rattle.cert_rules.specs.Reasons.{value_of, IsLawUnless}
use Rattle.cert_rules.proofs.EqualityLaws.{linked_by}
use Rattle.cert_rules.proofs.equality.link.Goals as goal

pub returns-in-Some-clause-equal : goal.returns-in-Some-clause-equal
returns-in-Some-clause-equal c =
    let terms = terms_of c.args.table.now in
    let types = types_of c.args.table.now in
    let law = linked_by terms types c.args.clause.now.items c.in_ok-hint.hint c.in_ok-between.between.left c.in_ok-between.between.right c.args.a c.args.b c.in_ok-between.ensures (c.if-not-is_between.ensures refl) in
    subst (λ ls. IsLawUnless terms types ls (λ values. value_of values c.args.a ≡ value_of values c.args.b)) (sym (c.in_ok-push.ensures.items ∙ ap (λ x. c.args.clause.now.items ++ x ∷ []) c.no.ensures)) law
