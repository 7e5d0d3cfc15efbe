use Rattle.std.proofs.Common.{◌*◌, pos, ◌+ℤ◌, ◌*ℤ◌}
use Rattle.std.proofs.lemmas.Bool.{and_left, and_right}
use Rattle.vb_value.proofs.BoundLaws.{refused_from_err, over_from_refused}
use Rattle.vb_value.proofs.FractionCode.{combined_answer, combined_over}
use Rattle.vb_value.proofs.fractions.Frac.add.Goals as goal

pub returns : goal.returns
returns c =
    let a = c.args.a in
    let b = c.args.b in
    let left = c.in_ok-left.ensures in
    let right = c.in_ok-right.ensures in
    let num = c.in_ok-num.ensures in
    combined_answer ◌+ℤ◌ (a.num *ℤ pos b.den) (b.num *ℤ pos a.den) (a.den * b.den) _ _ _ _ _ left.value left.within right.value right.within c.in_ok-den.ensures.value num.value num.within c.lowest_terms.ensures

pub returns-in_err-left : goal.returns-in_err-left
returns-in_err-left c =
    over_from_refused c.from_residual.result _ _ c.from_residual.ensures.0 (and_left _ _ (refused_from_err _ _ _ c.in_err-left.ensures.value))

pub returns-in_err-right : goal.returns-in_err-right
returns-in_err-right c =
    let step = c.from_residual-in_err-right in
    over_from_refused step.result _ _ step.ensures.0 (and_right _ _ (and_left _ _ (refused_from_err _ _ _ c.in_err-right.ensures.value)))

pub returns-in_err-den : goal.returns-in_err-den
returns-in_err-den c =
    let step = c.from_residual-in_err-den in
    over_from_refused step.result _ _ step.ensures.0 (and_right _ _ (and_right _ _ (and_left _ _ (refused_from_err _ _ _ c.in_err-den.ensures.value))))

pub returns-in_err-num : goal.returns-in_err-num
returns-in_err-num c =
    let a = c.args.a in
    let b = c.args.b in
    let left = c.in_ok-left.ensures in
    let right = c.in_ok-right.ensures in
    let step = c.from_residual-in_err-num in
    combined_over ◌+ℤ◌ (a.num *ℤ pos b.den) (b.num *ℤ pos a.den) (a.den * b.den) _ _ _ _ step.ensures.0 left.value left.within right.value right.within c.in_err-num.ensures.value
