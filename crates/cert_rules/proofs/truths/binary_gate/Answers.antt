use Rattle.cert_terms.specs.Lawful.{terms_of, types_of}
use Rattle.std.proofs.Common.{Some, ap, ◌∙◌}
use Rattle.std.proofs.lemmas.Result.{IfOk-weaker}
use Rattle.cert_terms.specs.declared.terms.CertificateTerm.TheVariants as term
use Rattle.cert_rules.proofs.GateLaws.{and_law, equal_law}
use Rattle.cert_rules.proofs.truths.binary_gate.Goals as goal

pub returns-in-And : goal.returns-in-And
returns-in-And c =
    IfOk-weaker c.and_gate.result _ _ (and_law (terms_of c.args.table.now) (types_of c.args.table.now) c.args.name _ c.args.a c.args.b c.of.ensures
    (c.requires.there ∙ ap (λ o. Some (term.Bin o c.args.a c.args.b)) c.in-And.is) c.requires.truth) c.and_gate.ensures

pub returns-in_ok-truths-in-Eq : goal.returns-in_ok-truths-in-Eq
returns-in_ok-truths-in-Eq c =
    IfOk-weaker c.equal_gate.result _ _ (equal_law (terms_of c.args.table.now) (types_of c.args.table.now) c.args.name _ c.args.a c.args.b c.of-in-Eq.ensures
    (c.requires.there ∙ ap (λ o. Some (term.Bin o c.args.a c.args.b)) c.in-Eq.is) c.requires.truth c.in_ok-truths-in-Eq.ensures.left c.in_ok-truths-in-Eq.ensures.right) c.equal_gate.ensures
