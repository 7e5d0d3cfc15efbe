use Rattle.boogie_wp.proofs.Rows as rows
use Rattle.boogie_wp.proofs.worked.a_chosen_value_fails_its_assertion.Goals as goal

pub returns-clause-fails : goal.returns-clause-fails
returns-clause-fails call = rows.chosen_fails

pub returns-clause-holds : goal.returns-clause-holds
returns-clause-holds call = rows.chosen_holds

pub returns-clause-other_label : goal.returns-clause-other_label
returns-clause-other_label call = rows.chosen_elsewhere
