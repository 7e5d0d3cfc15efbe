use Rattle.cert_terms.specs.Lawful.{terms_of, types_of}
use Rattle.std.proofs.Common.{◌≡◌, ◌∙◌, ◌++◌, ◌∷◌, [], ap, sym, subst}
use Rattle.std.proofs.lemmas.Result.{IfOk-weaker}
use Rattle.cert_rules.specs.Reasons.{value_of, IsLawUnless}
use Rattle.cert_rules.proofs.ClauseLaws.{law_if}
use Rattle.cert_rules.proofs.EqualityLaws.{path_law, path_more}
use Rattle.cert_rules.proofs.RefuteLaws.{literals_same, not_apart}
use Rattle.cert_rules.proofs.equality.path.Goals as goal

pub loop-hint-preserved : goal.loop-hint-preserved
loop-hint-preserved c =
    let terms = terms_of c.args.table.now in
    let types = types_of c.args.table.now in
    let start = c.in_ok-sides.sides.left in
    let law = path_more terms types c.loop-hint.clause.items start c.loop-hint.at c.in_ok-next.next _ c.in_ok-between.between.left c.in_ok-between.between.right c.in_ok-between.ensures c.in_ok-next.ensures c.loop-hint.invariant in
    subst (λ ls. IsLawUnless terms types ls (λ values. value_of values start ≡ value_of values c.in_ok-next.next)) (sym (c.in_ok-push.ensures.items ∙ ap (λ x. c.loop-hint.clause.items ++ x ∷ []) c.no.ensures)) law

pub returns : goal.returns
returns c =
    let terms = terms_of c.args.table.now in
    let types = types_of c.args.table.now in
    let sides = c.in_ok-sides.sides in
    let there = literals_same c.loop-hint.at sides.right (not_apart _ _ c.ne.ensures c.if-ne.false) in
    let law = path_law terms types c.loop-hint.clause.items c.args.name sides.left sides.right c.in_ok-sides.ensures
    (subst (λ r. IsLawUnless terms types c.loop-hint.clause.items (λ values. value_of values sides.left ≡ value_of values r)) there c.loop-hint.invariant) in
    IfOk-weaker c.closed.result _ _ (law_if terms types _ law) c.closed.ensures
