use Rattle.boogie_wp.proofs.Rows as rows
use Rattle.boogie_wp.proofs.worked.an_assertion_behind_a_join_fails_at_its_branch.Goals as goal

pub returns-clause-second : goal.returns-clause-second
returns-clause-second call = rows.joined_second

pub returns-clause-not_first : goal.returns-clause-not_first
returns-clause-not_first call = rows.joined_not_first
