use Rattle.boogie_wp.proofs.Rows as rows
use Rattle.boogie_wp.proofs.worked.an_assertion_fails_under_its_own_label.Goals as goal

pub returns-clause-first : goal.returns-clause-first
returns-clause-first call = rows.own_first

pub returns-clause-not_behind : goal.returns-clause-not_behind
returns-clause-not_behind call = rows.own_not_behind

pub returns-clause-none : goal.returns-clause-none
returns-clause-none call = rows.own_none
