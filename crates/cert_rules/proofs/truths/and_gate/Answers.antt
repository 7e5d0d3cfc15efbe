use Rattle.std.proofs.Common.{refl}
use Rattle.std.proofs.lemmas.Result.{IfOk-weaker}
use Rattle.cert_rules.specs.Gates.{IsAnd}
use Rattle.cert_rules.proofs.ClauseLaws.{two_if, three_if}
use Rattle.cert_rules.proofs.GateLaws.{and0, and1, and2}
use Rattle.cert_rules.proofs.truths.and_gate.Goals as goal

pub returns-in-0 : goal.returns-in-0
returns-in-0 c =
    IfOk-weaker c.three.result _ _ (three_if (λ values. IsAnd values c.args.n c.args.a c.args.b) c.args.n _ _ _ _ _ refl c.turned.ensures c.turned-in-0.ensures (λ values g. and0 g)) c.three.ensures

pub returns-in-1 : goal.returns-in-1
returns-in-1 c = IfOk-weaker c.two.result _ _ (two_if (λ values. IsAnd values c.args.n c.args.a c.args.b) _ c.args.a _ _ c.turned-in-1.ensures refl (λ values g. and1 g)) c.two.ensures

pub returns-in-2 : goal.returns-in-2
returns-in-2 c = IfOk-weaker c.two-in-2.result _ _ (two_if (λ values. IsAnd values c.args.n c.args.a c.args.b) _ c.args.b _ _ c.turned-in-2.ensures refl (λ values g. and2 g)) c.two-in-2.ensures
