use Rattle.enc_expr.proofs.Rows as rows
use Rattle.enc_expr.proofs.worked.a_field_is_read.Goals as goal

pub returns-clause-null : goal.returns-clause-null
returns-clause-null _ = rows.null

pub returns-clause-no_permission : goal.returns-clause-no_permission
returns-clause-no_permission _ = rows.no_permission

pub returns-clause-permission : goal.returns-clause-permission
returns-clause-permission _ = rows.permission
