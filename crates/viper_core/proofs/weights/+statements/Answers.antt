-- The variants that hold a `Vec` of statements.
use Rattle.std.proofs.Common.{◌∙◌, ap, arith}
use Rattle.viper_core.specs.View.{expr_of, program_of, stmt_of, stmts_of}
use Rattle.viper_core.specs.Size.{size}
use Rattle.viper_core.specs.Weight.{stmt_weight, stmts_weight}
use Rattle.viper_core.proofs.ViewLaws.{stmt_of-If, stmt_of-While}
use Rattle.viper_core.proofs.weights.+statements.Goals as goal

pub after_stmt-returns-in-If : goal.after_stmt-returns-in-If
after_stmt-returns-in-If t c =
    omega (
      arith,
      ap (stmt_weight (program_of c.args.program.now)) (ap stmt_of c.in-If.is ∙ stmt_of-If _ _ _ _),
      ap (λ base. size base (expr_of c.in-If.condition)) c.requires,
      ap (λ ss. stmts_weight (program_of c.args.program.now) (stmts_of ss)) c.deref-in-If.ensures.value,
      ap (λ ss. stmts_weight (program_of c.args.program.now) (stmts_of ss)) c.deref-in-If-2.ensures.value,
    )

pub after_stmt-returns-in-While : goal.after_stmt-returns-in-While
after_stmt-returns-in-While t c =
    omega (arith, ap (stmt_weight (program_of c.args.program.now)) (ap stmt_of c.in-While.is ∙ stmt_of-While c.in-While.turns))
