use Rattle.cert_rules.proofs.NumberReasons.{rest_is_law}
use Rattle.cert_rules.proofs.numbers.check_rest.Goals as goal

pub returns : goal.returns
returns c = rest_is_law _ _ c.in_ok-truth.ensures c.in_ok-sides.ensures c.in_ok-check_zero.ensures c.in_ok-operands_of.ensures
