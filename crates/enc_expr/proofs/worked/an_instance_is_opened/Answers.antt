use Rattle.enc_expr.proofs.Rows as rows
use Rattle.enc_expr.proofs.worked.an_instance_is_opened.Goals as goal

pub returns-clause-opened : goal.returns-clause-opened
returns-clause-opened _ = rows.opened

pub returns-clause-opened_zero : goal.returns-clause-opened_zero
returns-clause-opened_zero _ = rows.opened_zero

pub returns-clause-no_value : goal.returns-clause-no_value
returns-clause-no_value _ = rows.no_value

pub returns-clause-not_held : goal.returns-clause-not_held
returns-clause-not_held _ = rows.not_held

pub returns-clause-closed_behind : goal.returns-clause-closed_behind
returns-clause-closed_behind _ = rows.closed_behind

pub returns-clause-taken_out : goal.returns-clause-taken_out
returns-clause-taken_out _ = rows.taken_out
