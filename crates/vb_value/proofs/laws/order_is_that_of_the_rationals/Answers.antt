use Rattle.vb_value.proofs.OrderLaws.{order_antisymm, same_from_order, order_trans, order-sum, order-product}
use Rattle.vb_value.proofs.laws.order_is_that_of_the_rationals.Goals as goal

pub returns-clause-turns : goal.returns-clause-turns
returns-clause-turns c = order_antisymm

pub returns-clause-tells : goal.returns-clause-tells
returns-clause-tells c = same_from_order

pub returns-clause-chains : goal.returns-clause-chains
returns-clause-chains c = λ p q r x y z. order_trans p q r x.positive y.positive z.positive

pub returns-clause-sums : goal.returns-clause-sums
returns-clause-sums c = λ p q r x y z. order-sum p q r x.positive y.positive z.positive

pub returns-clause-products : goal.returns-clause-products
returns-clause-products c = λ k p q x y z positive. order-product k p q x.positive y.positive z.positive positive
