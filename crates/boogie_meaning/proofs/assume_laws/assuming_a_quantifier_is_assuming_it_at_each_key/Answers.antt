use Rattle.boogie_meaning.proofs.AssumeLaws.{assume_holds, assume_done, assume_blocked, assume_ends}
use Rattle.boogie_meaning.proofs.assume_laws.assuming_a_quantifier_is_assuming_it_at_each_key.Goals as goal

pub returns-clause-holds : goal.returns-clause-holds
returns-clause-holds c = assume_holds

pub returns-clause-done : goal.returns-clause-done
returns-clause-done c = assume_done

pub returns-clause-blocked : goal.returns-clause-blocked
returns-clause-blocked c = assume_blocked

pub returns-clause-ends : goal.returns-clause-ends
returns-clause-ends c = assume_ends
