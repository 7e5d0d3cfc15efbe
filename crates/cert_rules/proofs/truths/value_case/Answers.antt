use Rattle.cert_terms.specs.Lawful.{terms_of, types_of}
use Rattle.std.proofs.Common.{subst}
use Rattle.std.proofs.lemmas.Result.{IfOk-weaker}
use Rattle.cert_rules.specs.Reasons.{IsNamed}
use Rattle.cert_rules.proofs.GateLaws.{value_case_law}
use Rattle.cert_rules.proofs.truths.value_case.Goals as goal

pub returns-in-If : goal.returns-in-If
returns-in-If c =
    let sides = c.in_ok-sides.sides in
    IfOk-weaker c.chosen.result _ _ (value_case_law (terms_of c.args.table.now) (types_of c.args.table.now) c.args.name sides.left sides.right c.in-If.condition c.in-If.first c.in-If.second
    c.in_ok-sides.ensures (subst (IsNamed (terms_of c.args.table.now) sides.left) c.in-If.is c.in_ok-term.ensures)) c.chosen.ensures
