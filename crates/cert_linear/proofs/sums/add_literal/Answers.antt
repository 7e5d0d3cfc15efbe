use Rattle.std.proofs.Common.{subst, sym}
use Rattle.cert_terms.specs.View.{terms_in, types_in}
use Rattle.cert_linear.specs.Numbers.{Follows}
use Rattle.cert_linear.proofs.FollowLaws.{follows_literal}
use Rattle.cert_linear.proofs.sums.add_literal.Goals as goal

pub returns : goal.returns
returns c h =
    let old = c.args.total.now in
    let new = c.add.new.self in
    subst (λ xs. Follows (terms_in c.args.names.now) (types_in c.args.names.now) xs new.products.items new.number new.sign) (sym c.in_ok-push.ensures.items)
    (follows_literal (terms_in c.args.names.now) (types_in c.args.names.now) c.args.clause.now.items c.args.literal c.in_ok-known.known old.products.items old.number old.sign new.products.items new.number new.sign c.in_ok-known.ensures.truth c.in_ok-known.ensures.holds c.in_ok-add.ensures h)
