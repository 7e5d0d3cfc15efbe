use Rattle.boogie_wp.proofs.Rows as rows
use Rattle.boogie_wp.proofs.worked.a_join_has_the_values_of_its_branch.Goals as goal

pub returns-clause-first : goal.returns-clause-first
returns-clause-first call = rows.joining_first

pub returns-clause-second : goal.returns-clause-second
returns-clause-second call = rows.joining_second
