use Rattle.boogie_meaning.proofs.PatternLaws.{avoid_goes, avoid_done, avoid_ends}
use Rattle.boogie_meaning.proofs.assume_laws.assuming_that_a_map_avoids_a_value_is_assuming_it_at_each_key.Goals as goal

pub returns-clause-goes : goal.returns-clause-goes
returns-clause-goes c = avoid_goes

pub returns-clause-done : goal.returns-clause-done
returns-clause-done c = avoid_done

pub returns-clause-ends : goal.returns-clause-ends
returns-clause-ends c = avoid_ends
