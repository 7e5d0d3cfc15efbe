use Rattle.cert_terms.specs.View.{terms_in, types_in}
use Rattle.cert_linear.proofs.FollowLaws.{follows_name}
use Rattle.cert_linear.proofs.sums.add_name.Goals as goal

pub returns : goal.returns
returns c clause h =
    let old = c.args.total.now in
    let new = c.add.new.self in
    follows_name (terms_in c.args.names.now) (types_in c.args.names.now) clause c.in_ok-known.known old.products.items old.number old.sign new.products.items new.number new.sign c.in_ok-known.ensures c.in_ok-add.ensures h
