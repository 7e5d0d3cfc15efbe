use Rattle.boogie_meaning.specs.Quantified.{quantified}
use Rattle.boogie_meaning.proofs.ForallLaws.{one_forall}
use Rattle.boogie_meaning.proofs.laws.a_quantifier_has_one_end.Goals as goal

pub returns-clause-has : goal.returns-clause-has
returns-clause-has c b us a env = (quantified b us a env).1

pub returns-clause-one : goal.returns-clause-one
returns-clause-one c b us a env e h = one_forall h (quantified b us a env).1
