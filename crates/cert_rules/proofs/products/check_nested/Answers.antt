use Rattle.cert_rules.specs.Shapes.{associates, distributes}
use Rattle.cert_rules.proofs.products.check_nested.Goals as goal

pub returns-in_ok-check_associates-in-Ok : goal.returns-in_ok-check_associates-in-Ok
returns-in_ok-check_associates-in-Ok c = associates c.requires c.in-Ok.ensures c.in_ok-check_associates-in-Ok.ensures

pub returns-in_ok-check_products-in-Err : goal.returns-in_ok-check_products-in-Err
returns-in_ok-check_products-in-Err c =
    let sum = c.in_ok-sum-in-Err.ensures in
    distributes sum.is_additive c.requires sum.is_there c.in_ok-check_products-in-Err.ensures
