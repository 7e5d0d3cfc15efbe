use Rattle.std.proofs.Common.{refl}
use Rattle.boogie_cut.proofs.worked.a_weak_invariant_allows_what_no_turns_lead_to.Goals as goal

pub returns-clause-written : goal.returns-clause-written
returns-clause-written c labels = refl

pub returns-clause-turns : goal.returns-clause-turns
returns-clause-turns c labels = refl

pub returns-clause-too_few : goal.returns-clause-too_few
returns-clause-too_few c labels = refl
