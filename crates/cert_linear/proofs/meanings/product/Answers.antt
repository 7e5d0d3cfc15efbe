use Rattle.cert_terms.specs.View.{terms_in, types_in}
use Rattle.cert_linear.proofs.CodeLaws.{product_law, product_law_right}
use Rattle.cert_linear.proofs.meanings.product.Goals as goal

pub returns-in_ok-left-in-Ok : goal.returns-in_ok-left-in-Ok
returns-in_ok-left-in-Ok c = product_law (terms_in c.args.names.now) (types_in c.args.names.now) c.args.name c.args.a c.args.b c.in-Ok.k _ c.in-Ok.ensures c.in_ok-left-in-Ok.ensures

pub returns-in_ok-right-in-Err : goal.returns-in_ok-right-in-Err
returns-in_ok-right-in-Err c =
    product_law_right (terms_in c.args.names.now) (types_in c.args.names.now) c.args.name c.args.a c.args.b c.in_ok-k-in-Err.k _ c.in_ok-k-in-Err.ensures c.in_ok-right-in-Err.ensures
