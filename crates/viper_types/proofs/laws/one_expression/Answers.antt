use Rattle.viper_types.proofs.AssertionLaws.{one_assertion}
use Rattle.viper_types.proofs.TermFinds.{one_typing}
use Rattle.viper_types.proofs.laws.one_expression.Goals as goal

pub returns-clause-expression : goal.returns-clause-expression
returns-clause-expression _ k sc a x y u v h g = one_typing h g

pub returns-clause-assertion : goal.returns-clause-assertion
returns-clause-assertion _ k sc a x y h g = one_assertion h g
