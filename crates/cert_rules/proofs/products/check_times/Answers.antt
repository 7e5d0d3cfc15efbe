use Rattle.cert_rules.proofs.ProductReasons.{times_is_law}
use Rattle.cert_rules.proofs.products.check_times.Goals as goal

pub returns : goal.returns
returns c =
    let sums = c.in_ok-check_crossed.ensures in
    times_is_law _ _ c.in_ok-truth.ensures c.in_ok-truth-2.ensures c.in_ok-truth-3.ensures c.in_ok-one.ensures c.in_ok-two.ensures c.in_ok-sums.ensures sums.less sums.more
