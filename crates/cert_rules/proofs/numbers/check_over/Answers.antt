use Rattle.cert_rules.proofs.NumberReasons.{over_real_is_law, over_int_is_law}
use Rattle.cert_rules.proofs.numbers.check_over.Goals as goal

pub returns-in-Ok : goal.returns-in-Ok
returns-in-Ok c =
    let test = c.in_ok-divisor.ensures in
    let found = c.in-Ok.ensures in
    over_real_is_law _ _ test.truth c.in_ok-truth.ensures test.whole test.is_zero c.in_ok-sides.ensures found.whole found.quotient

pub returns-in_ok-check_euclidean-in-Err : goal.returns-in_ok-check_euclidean-in-Err
returns-in_ok-check_euclidean-in-Err c =
    let test = c.in_ok-divisor.ensures in
    let found = c.in_ok-check_euclidean-in-Err.ensures in
    over_int_is_law _ _ test.truth c.in_ok-truth.ensures test.whole test.is_zero c.in_ok-sides.ensures found.whole found.product found.divided found.rest
