use Rattle.boogie_wp.proofs.Rows as rows
use Rattle.boogie_wp.proofs.worked.a_pick_skips_the_choices_of_the_other_branch.Goals as goal

pub returns-clause-taken : goal.returns-clause-taken
returns-clause-taken call = rows.picking_taken

pub returns-clause-skipped : goal.returns-clause-skipped
returns-clause-skipped call = rows.picking_skipped
