use Rattle.cert_rules.proofs.ProductReasons.{ring_is_law}
use Rattle.cert_rules.proofs.products.check_ring.Goals as goal

pub returns : goal.returns
returns c = ring_is_law _ _ c.in_ok-truth.ensures c.in_ok-sides.ensures c.in_ok-check_sides.ensures
