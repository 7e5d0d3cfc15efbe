use Rattle.vb_value.proofs.GcdLaws.{IsGcd-gcd}
use Rattle.vb_value.proofs.laws.gcd_is_common_and_greatest.Goals as goal

pub returns : goal.returns
returns c = IsGcd-gcd
