use Rattle.boogie_meaning.proofs.PatternLaws.{forget_goes, forget_agrees, forget_stops}
use Rattle.boogie_meaning.proofs.assume_laws.forgetting_is_choosing_a_map_that_agrees.Goals as goal

pub returns-clause-goes : goal.returns-clause-goes
returns-clause-goes c = forget_goes

pub returns-clause-agrees : goal.returns-clause-agrees
returns-clause-agrees c = forget_agrees

pub returns-clause-stops : goal.returns-clause-stops
returns-clause-stops c = forget_stops
