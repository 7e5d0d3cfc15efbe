use Rattle.std.proofs.Common.{refl}
use Rattle.std.proofs.lemmas.Result.{IfOk-weaker}
use Rattle.cert_rules.specs.Gates.{IsEqual}
use Rattle.cert_rules.proofs.ClauseLaws.{three_if}
use Rattle.cert_rules.proofs.GateLaws.{equal0, equal1, equal2, equal3}
use Rattle.cert_rules.proofs.truths.equal_gate.Goals as goal

pub returns-in-0 : goal.returns-in-0
returns-in-0 c =
    IfOk-weaker c.three.result _ _ (three_if (λ values. IsEqual values c.args.n c.args.a c.args.b) c.args.n c.args.a c.args.b _ _ _ refl refl refl (λ values g. equal0 g)) c.three.ensures

pub returns-in-1 : goal.returns-in-1
returns-in-1 c =
    IfOk-weaker c.three-in-1.result _ _ (three_if (λ values. IsEqual values c.args.n c.args.a c.args.b) c.args.n _ _ _ _ _ refl c.turned.ensures c.turned-in-1.ensures (λ values g. equal1 g)) c.three-in-1.ensures

pub returns-in-2 : goal.returns-in-2
returns-in-2 c =
    IfOk-weaker c.three-in-2.result _ _ (three_if (λ values. IsEqual values c.args.n c.args.a c.args.b) _ _ c.args.b _ _ _ c.turned-in-2.ensures c.turned-in-2-2.ensures refl (λ values g. equal2 g)) c.three-in-2.ensures

pub returns-in-3 : goal.returns-in-3
returns-in-3 c =
    IfOk-weaker c.three-in-3.result _ _ (three_if (λ values. IsEqual values c.args.n c.args.a c.args.b) _ c.args.a _ _ _ _ c.turned-in-3.ensures refl c.turned-in-3-2.ensures (λ values g. equal3 g)) c.three-in-3.ensures
