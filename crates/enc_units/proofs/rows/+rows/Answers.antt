-- The rows of statements with blocks.
use Rattle.std.proofs.Common.{◌≡◌, ◌∙◌, ◌++◌, OnOk, map, ap, sym, subst, arith}
use Rattle.std.proofs.lemmas.Grind.{common_steps}
use Rattle.viper_core.specs.View.{stmt_of}
use Rattle.viper_core.proofs.ViewLaws.{stmt_of-If, stmt_of-While}
use Rattle.enc_units.specs.Steps.{stmt_row}
use Rattle.enc_units.specs.View.{step_of}
use Rattle.enc_units.proofs.rows.+rows.Goals as goal

pub add_stmt-returns-in_ok-add_block-in-If-2 : goal.add_stmt-returns-in_ok-add_block-in-If-2
add_stmt-returns-in_ok-add_block-in-If-2 t c =
    subst (λ y. OnOk c.add_branch-in-If-2.result (map step_of c.add_branch-in-If-2.new.row.items ≡ map step_of c.args.row.now.items ++ y))
    (sym (ap (λ y. stmt_row (stmt_of y)) c.in-If.is ∙ ap stmt_row (stmt_of-If c.in-If.at c.in-If.condition c.in-If.first c.in-If.second))) (grind (arith, common_steps))

pub add_stmt-returns-in_ok-add_code-in-While-4 : goal.add_stmt-returns-in_ok-add_code-in-While-4
add_stmt-returns-in_ok-add_code-in-While-4 t c =
    subst (λ y. OnOk c.add_branch-in-While-3.result (map step_of c.add_branch-in-While-3.new.row.items ≡ map step_of c.args.row.now.items ++ y))
    (sym (ap (λ y. stmt_row (stmt_of y)) c.in-While.is ∙ ap stmt_row (stmt_of-While c.in-While.w))) (grind (arith, common_steps))
