use Rattle.boogie_wp.proofs.Rows as rows
use Rattle.boogie_wp.proofs.worked.earlier_assertions_are_on_the_path.Goals as goal

pub returns-clause-before : goal.returns-clause-before
returns-clause-before call = rows.twice_before

pub returns-clause-at_it : goal.returns-clause-at_it
returns-clause-at_it call = rows.twice_at_it
