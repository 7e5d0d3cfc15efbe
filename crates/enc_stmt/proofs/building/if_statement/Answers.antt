use Rattle.std.proofs.Common.{◌∙◌, ap, sym}
use Rattle.boogie_tree.specs.Stmt as s
use Rattle.boogie_tree.specs.Whole.{expr_of, stmts_of}
use Rattle.boogie_tree.proofs.WholeLaws.{stmt_of-If, stmt_of-Either}
use Rattle.enc_stmt.specs.Built.{if_code, condition_of}
use Rattle.enc_stmt.proofs.building.if_statement.Goals as goal

pub returns-in-Some : goal.returns-in-Some
returns-in-Some c =
    stmt_of-If c.into_inner.result c.args.first c.args.second ∙ ap (λ x. s.If (expr_of x) (stmts_of c.args.first.items) (stmts_of c.args.second.items)) c.into_inner.ensures
    ∙ ap (λ x. if_code (condition_of x) (stmts_of c.args.first.items) (stmts_of c.args.second.items)) (sym c.in-Some.is)

pub returns-in-None : goal.returns-in-None
returns-in-None c =
    stmt_of-Either c.args.first c.args.second ∙ ap (λ x. if_code (condition_of x) (stmts_of c.args.first.items) (stmts_of c.args.second.items)) (sym c.in-None.is)
