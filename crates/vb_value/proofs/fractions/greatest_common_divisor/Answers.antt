use Rattle.std.proofs.Common.{◌≡◌, sym, ap, ◌∙◌, arith}
use Rattle.vb_value.specs.Gcd.{gcd}
use Rattle.vb_value.proofs.GcdLaws.{gcd-mod, gcd-zero}
use Rattle.vb_value.proofs.fractions.greatest_common_divisor.Goals as goal

pub loop-b-preserved : goal.loop-b-preserved
loop-b-preserved c = sym (gcd-mod _ _) ∙ c.loop-b.invariant

pub returns : goal.returns
returns c =
    let done : c.loop-b.b ≡ 0 = omega arith in
    sym (gcd-zero c.loop-b.a) ∙ ap (gcd c.loop-b.a) (sym done) ∙ c.loop-b.invariant
