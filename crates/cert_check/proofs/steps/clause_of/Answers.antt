use Rattle.std.proofs.Common.{IfOk, subst}
use Rattle.boogie_formula.specs.View.{conditions_of}
use Rattle.cert_terms.specs.Lawful.{terms_of, types_of}
use Rattle.cert_rules.specs.Refutes.{FollowsFrom}
use Rattle.cert_check.proofs.TheoremLaws.{rup_shown}
use Rattle.cert_check.proofs.steps.clause_of.Goals as goal

pub returns-in-Rup : goal.returns-in-Rup
returns-in-Rup c =
    let terms = terms_of c.args.scope.table.now in
    let types = types_of c.args.scope.table.now in
    rup_shown (conditions_of c.args.conditions.now) terms types c.args.shown.now.clauses.items c.of_rup.result c.requires.clauses
    (subst (λ cs. IfOk c.of_rup.result (λ r. FollowsFrom types cs r.items)) c.deref.ensures.value c.of_rup.ensures)
