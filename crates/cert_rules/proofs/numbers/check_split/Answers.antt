use Rattle.cert_rules.proofs.NumberReasons.{split_is_law}
use Rattle.cert_rules.proofs.numbers.check_split.Goals as goal

pub returns : goal.returns
returns c = split_is_law _ _ c.in_ok-truth.ensures c.in_ok-truth-2.ensures c.in_ok-truth-3.ensures c.in_ok-sides.ensures c.in_ok-check_bin.ensures c.in_ok-check_bin-2.ensures
