use Rattle.vb_value.proofs.OperationLaws.{sum_comm, sum_assoc, sum-zero, difference-sum, sum-difference, product_comm, product_assoc, product-one, product-sum}
use Rattle.vb_value.proofs.QuotientLaws.{product-quotient}
use Rattle.vb_value.proofs.laws.arithmetic_is_that_of_the_rationals.Goals as goal

pub returns-clause-sum_commutes : goal.returns-clause-sum_commutes
returns-clause-sum_commutes c = sum_comm

pub returns-clause-sum_associates : goal.returns-clause-sum_associates
returns-clause-sum_associates c = λ p q r x y z. sum_assoc p q r x.positive y.positive z.positive

pub returns-clause-zero_is_neutral : goal.returns-clause-zero_is_neutral
returns-clause-zero_is_neutral c = sum-zero

pub returns-clause-difference_undoes : goal.returns-clause-difference_undoes
returns-clause-difference_undoes c = λ p q x y. difference-sum p q x y.positive

pub returns-clause-product_associates : goal.returns-clause-product_associates
returns-clause-product_associates c = λ p q r x y z. product_assoc p q r x.positive y.positive z.positive

pub returns-clause-one_is_neutral : goal.returns-clause-one_is_neutral
returns-clause-one_is_neutral c = product-one

pub returns-clause-product_distributes : goal.returns-clause-product_distributes
returns-clause-product_distributes c = λ r p q x y z. product-sum r p q x.positive y.positive z.positive

pub returns-clause-difference_is_undone : goal.returns-clause-difference_is_undone
returns-clause-difference_is_undone c = λ p q x y. sum-difference p q x y.positive

pub returns-clause-product_commutes : goal.returns-clause-product_commutes
returns-clause-product_commutes c = product_comm

pub returns-clause-quotient_is_undone : goal.returns-clause-quotient_is_undone
returns-clause-quotient_is_undone c = λ p q x y nonzero. product-quotient p q x y.positive nonzero
