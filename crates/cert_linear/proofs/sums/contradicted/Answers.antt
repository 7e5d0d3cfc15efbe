use Rattle.cert_terms.specs.View.{terms_in, types_in}
use Rattle.cert_linear.proofs.FollowLaws.{law_from}
use Rattle.cert_linear.proofs.sums.contradicted.Goals as goal

pub returns : goal.returns
returns c =
    let total = c.loop-weight-2.total in
    law_from (terms_in c.args.names.now) (types_in c.args.names.now) c.loop-weight.clause.items total.products.items total.number total.sign c.in_ok-contradict.ensures c.loop-weight-2.invariant
