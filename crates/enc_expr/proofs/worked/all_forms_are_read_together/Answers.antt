use Rattle.enc_expr.proofs.Rows as rows
use Rattle.enc_expr.proofs.worked.all_forms_are_read_together.Goals as goal

pub returns-clause-in_all_true : goal.returns-clause-in_all_true
returns-clause-in_all_true _ = rows.in_all_true

pub returns-clause-right_side : goal.returns-clause-right_side
returns-clause-right_side _ = rows.right_side

pub returns-clause-other_side : goal.returns-clause-other_side
returns-clause-other_side _ = rows.other_side

pub returns-clause-other_key : goal.returns-clause-other_key
returns-clause-other_key _ = rows.other_key

pub returns-clause-implies_nothing : goal.returns-clause-implies_nothing
returns-clause-implies_nothing _ = rows.implies_nothing

pub returns-clause-implies_more : goal.returns-clause-implies_more
returns-clause-implies_more _ = rows.implies_more

pub returns-clause-other_content : goal.returns-clause-other_content
returns-clause-other_content _ = rows.other_content

pub returns-clause-by_half : goal.returns-clause-by_half
returns-clause-by_half _ = rows.by_half

pub returns-clause-asleep : goal.returns-clause-asleep
returns-clause-asleep _ = rows.asleep

pub returns-clause-asleep_too : goal.returns-clause-asleep_too
returns-clause-asleep_too _ = rows.asleep_too

pub returns-clause-awake : goal.returns-clause-awake
returns-clause-awake _ = rows.awake
