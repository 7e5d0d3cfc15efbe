use Rattle.std.proofs.Common.{◌*◌, ◌*ℤ◌}
use Rattle.std.proofs.lemmas.Bool.{and_left, and_right}
use Rattle.vb_value.proofs.BoundLaws.{read_back, refused_from_err, over_from_refused}
use Rattle.vb_value.proofs.FractionCode.{product_answer}
use Rattle.vb_value.proofs.fractions.Frac.mul.Goals as goal

pub returns : goal.returns
returns c =
    let a = c.args.a in
    let b = c.args.b in
    let p = c.num.ensures in
    let q = c.num-2.ensures in
    let num = rw (p.value, q.value, read_back a.num p.representable.within.num, read_back b.num q.representable.within.num) at c.in_ok-num.ensures.value in
    product_answer (a.num *ℤ b.num) (a.den * b.den) _ _ _ num c.in_ok-num.ensures.within c.in_ok-den.ensures.value c.lowest_terms.ensures

pub returns-in_err-num : goal.returns-in_err-num
returns-in_err-num c =
    let p = c.num.ensures in
    let q = c.num-2.ensures in
    let num = rw (p.value, q.value, read_back c.args.a.num p.representable.within.num, read_back c.args.b.num q.representable.within.num) at c.in_err-num.ensures.value in
    over_from_refused c.from_residual.result _ _ c.from_residual.ensures.0 (and_left _ _ (refused_from_err _ _ _ num))

pub returns-in_err-den : goal.returns-in_err-den
returns-in_err-den c =
    let step = c.from_residual-in_err-den in
    over_from_refused step.result _ _ step.ensures.0 (and_right _ _ (refused_from_err _ _ _ c.in_err-den.ensures.value))
