use Rattle.std.proofs.Common.{◌≢◌, pos}
use Rattle.vb_value.proofs.BoundLaws.{read_back, IfOk-value_if}
use Rattle.vb_value.proofs.IntLaws.{*ℤ_nonzero}
use Rattle.vb_value.proofs.fractions.cross_product.Goals as goal

pub returns-clause-nonzero : goal.returns-clause-nonzero
returns-clause-nonzero c = λ n.
    let a = c.num.ensures in
    let b = c.den.ensures in
    rw (c.int_mul.ensures.value, a.value, b.value, read_back c.args.a.num a.representable.within.num, read_back (pos c.args.b.den) b.representable.within.den)
    (IfOk-value_if (λ z. z ≢ pos 0) _ _ (*ℤ_nonzero _ _ b.representable.reduced.positive n))
