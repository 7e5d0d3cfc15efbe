use Rattle.cert_rules.specs.Shapes.{whole}
use Rattle.cert_rules.proofs.products.check_whole.Goals as goal

pub returns : goal.returns
returns c = whole c.requires c.in_ok-parts.ensures (record {
  left = c.in_ok-reals.reals.left;
  right = c.in_ok-reals.reals.right;
  whole = c.in_ok-reals.ensures;
  first = c.in_ok-check_real.ensures;
  second = c.in_ok-check_real-2.ensures;
})
