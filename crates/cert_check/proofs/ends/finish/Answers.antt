use Rattle.std.proofs.Common.{◌≤◌, length, refl, subst, arith}
use Rattle.lemmas.proofs.Lists.{all_taken}
use Rattle.cert_rules.proofs.RefuteLaws.{All-more}
use Rattle.cert_check.specs.Ends.{AreAlone, IsOpposed, IsDenied}
use Rattle.cert_check.proofs.EndLaws.{opposed_denied}
use Rattle.cert_check.proofs.ends.finish.Goals as goal

pub loop-assertion-preserved : goal.loop-assertion-preserved
loop-assertion-preserved c =
    let clauses = c.args.shown.now.clauses.items in
    let aliases = c.args.shown.now.aliases.items in
    let assertion = c.assertion-item.result in
    let units = c.in_ok-units.units in
    let alone = subst (AreAlone units) c.deref.ensures.value c.in_ok-units.ensures in
    let opposed = subst (λ told. IsOpposed units told assertion.name) c.deref-in-loop-assertion.ensures.value (c.if-not-is_opposed.ensures refl) in
    All-more (IsDenied clauses aliases) c.args.fails.now c.loop-assertion.assertion-index assertion c.loop-assertion-test.true c.loop-assertion.invariant
    (subst (IsDenied clauses aliases) c.assertion-item.is (opposed_denied clauses aliases units assertion alone opposed))

pub returns : goal.returns
returns c =
    let h : length c.args.fails.now ≤ c.loop-assertion.assertion-index = omega arith in
    all_taken (IsDenied c.args.shown.now.clauses.items c.args.shown.now.aliases.items) c.args.fails.now c.loop-assertion.assertion-index h c.loop-assertion.invariant
