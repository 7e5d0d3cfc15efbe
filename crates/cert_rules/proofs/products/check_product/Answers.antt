use Rattle.cert_rules.specs.Shapes.{commutes}
use Rattle.cert_rules.proofs.products.check_product.Goals as goal

pub returns-in-Ok : goal.returns-in-Ok
returns-in-Ok c = commutes c.requires c.in-Ok.ensures
