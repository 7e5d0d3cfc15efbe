use Rattle.cert_terms.specs.Lawful.{terms_of, types_of}
use Rattle.std.proofs.Common.{◌≡◌, Some, true, slice_get, ap, subst, ◌∙◌}
use Rattle.std.proofs.lemmas.Result.{IfOk-weaker}
use Rattle.cert_terms.specs.Terms.{IsTruth}
use Rattle.cert_terms.specs.declared.terms.CertificateTerm.TheVariants as term
use Rattle.cert_rules.specs.Reasons.{yes}
use Rattle.cert_rules.proofs.ClauseLaws.{one_law}
use Rattle.cert_rules.proofs.GateLaws.{true_law, if_law}
use Rattle.cert_rules.proofs.truths.gate.Goals as goal

pub returns-in-Bool-true : goal.returns-in-Bool-true
returns-in-Bool-true c =
    let terms = terms_of c.args.table.now in
    let types = types_of c.args.table.now in
    let there : slice_get terms c.args.name ≡ Some (term.Bool true) = cc (c.in_ok-term.ensures, c.in-Bool-true.is, c.in-Bool-true.field-0-is) in
    IfOk-weaker c.one.result _ _ (one_law terms types c.of-in-Bool-true.result (yes c.args.name) c.of-in-Bool-true.ensures (true_law terms types c.args.name there)) c.one.ensures

pub returns-in-If : goal.returns-in-If
returns-in-If c =
    let terms = terms_of c.args.table.now in
    let types = types_of c.args.table.now in
    let truth = subst (IsTruth types) c.of.ensures c.in_ok-truth.ensures in
    IfOk-weaker c.if_gate.result _ _ (if_law terms types c.args.name c.of-in-If.result c.in-If.condition c.in-If.first c.in-If.second c.of-in-If.ensures (c.in_ok-term.ensures ∙ ap Some c.in-If.is) truth)
    c.if_gate.ensures
