use Rattle.boogie_meaning.proofs.PatternLaws.{zero_goes, zero_done, zero_ends}
use Rattle.boogie_meaning.proofs.assume_laws.assuming_zeros_is_assuming_the_map_of_zeros.Goals as goal

pub returns-clause-goes : goal.returns-clause-goes
returns-clause-goes c = zero_goes

pub returns-clause-done : goal.returns-clause-done
returns-clause-done c = zero_done

pub returns-clause-ends : goal.returns-clause-ends
returns-clause-ends c = zero_ends
