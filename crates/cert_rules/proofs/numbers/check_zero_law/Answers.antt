use Rattle.cert_rules.proofs.NumberReasons.{zero_is_law}
use Rattle.cert_rules.proofs.numbers.check_zero_law.Goals as goal

pub returns : goal.returns
returns c =
    let z = c.in_ok-divisor.ensures in
    let e = c.in_ok-result.ensures in
    zero_is_law _ _ _ c.in_ok-division_by.ensures.is_division z.truth e.truth z.whole z.is_zero e.whole e.is_zero c.in_ok-division_by.ensures.is_there
