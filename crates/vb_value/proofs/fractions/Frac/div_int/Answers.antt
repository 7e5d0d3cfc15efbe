use Rattle.std.proofs.Common.{pos, ◌*ℤ◌}
use Rattle.vb_value.proofs.BoundLaws.{read_back}
use Rattle.vb_value.proofs.FractionCode.{ratio_answer}
use Rattle.vb_value.proofs.fractions.Frac.div_int.Goals as goal

pub returns : goal.returns
returns c =
    let a = c.args.a in
    let p = c.num.ensures in
    let q = c.den.ensures in
    let den = rw (q.value, read_back (pos a.den) q.representable.within.den, read_back c.args.n c.requires.within) at c.in_ok-den.ensures.value in
    ratio_answer a.num (pos a.den *ℤ c.args.n) c.num.result c.in_ok-den.den c.signed_ratio.result p.value p.representable.within.num den c.in_ok-den.ensures.within c.signed_ratio.ensures
