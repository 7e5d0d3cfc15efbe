-- The variants that hold a `Vec` of statements.
use Rattle.std.proofs.Common.{rules, ◌∙◌, ap}
use Rattle.viper_core.specs.View.{stmt_of}
use Rattle.viper_core.proofs.ViewLaws.{stmt_of-If}
use Rattle.viper_scope.specs.Listed.{ascending}
use Rattle.viper_scope.specs.Target.{targets_of_stmt}
use Rattle.viper_scope.proofs.loops.+targets.Goals as goal

pub add_of_stmt-returns-in_ok-add_from-in-If : goal.add_of_stmt-returns-in_ok-add_from-in-If
add_of_stmt-returns-in_ok-add_from-in-If t c =
    rw (ap (targets_of_stmt c.args.below (ascending c.args.found.now.items)) (ap stmt_of c.in-If.is ∙ stmt_of-If _ _ _ _)) (search rules)
