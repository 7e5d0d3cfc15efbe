use Rattle.cert_terms.specs.View.{terms_in, types_in}
use Rattle.cert_linear.specs.Numbers.{Follows}
use Rattle.cert_linear.proofs.sums.contradicted.Given as goal

-- the sum so far follows from the literals so far
abbrev pub invariant-loop-weight : goal.invariant-loop-weight
invariant-loop-weight l = Follows (terms_in l.names) (types_in l.names) l.clause.items l.total.products.items l.total.number l.total.sign

abbrev pub invariant-loop-weight-2 : goal.invariant-loop-weight-2
invariant-loop-weight-2 l = Follows (terms_in l.names) (types_in l.names) l.clause.items l.total.products.items l.total.number l.total.sign
