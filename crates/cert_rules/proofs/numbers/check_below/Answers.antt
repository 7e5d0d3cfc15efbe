use Rattle.cert_rules.proofs.NumberReasons.{below_is_law, below_negative_is_law}
use Rattle.cert_rules.proofs.numbers.check_below.Goals as goal

pub returns-in_ok-left_of-in-Ok : goal.returns-in_ok-left_of-in-Ok
returns-in_ok-left_of-in-Ok c =
    below_is_law _ _ c.in_ok-truth.ensures c.in_ok-truth-2.ensures c.in_ok-sides.ensures c.in_ok-check_zero-in-Ok.ensures c.in-Ok.ensures c.in_ok-left_of-in-Ok.ensures

pub returns-in_ok-left_of-in-Err : goal.returns-in_ok-left_of-in-Err
returns-in_ok-left_of-in-Err c =
    below_negative_is_law _ _ c.in_ok-truth.ensures c.in_ok-truth-2.ensures c.in_ok-sides.ensures c.in_ok-check_zero-in-Err.ensures c.in_ok-compared-in-Err.ensures c.in_ok-check_negation-in-Err.ensures c.in_ok-left_of-in-Err.ensures
