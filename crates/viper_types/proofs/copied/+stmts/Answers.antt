-- The variants that hold blocks.
use Rattle.std.proofs.Common.{rules, ◌∙◌, ap, ◌+◌, map}
use Rattle.viper_core.proofs.BudgetLaws.{leaves_at}
use Rattle.viper_syntax.specs.View.{term_of, stmt_of, block_of, arms_of, else_of}
use Rattle.viper_syntax.proofs.ViewLaws.{stmt_of-If, stmt_of-While}
use Rattle.viper_scope.specs.Answers.{world_of}
use Rattle.viper_types.specs.Answers.{optional_bodies_of}
use Rattle.viper_types.specs.Copied.{copied, copied_by, copied_by_terms, copied_by_arms, copied_by_else, copied_by_block}
use Rattle.viper_types.proofs.copied.+stmts.Goals as goal

pub spend_stmt-returns-in_err-left-in-If : goal.spend_stmt-returns-in_err-left-in-If
spend_stmt-returns-in_err-left-in-If t c =
    leaves_at _ _ _ (copied_by_arms (world_of c.args.world.now) (optional_bodies_of c.args.bodies.now) c.args.refs (arms_of c.in-If.arms.items) + copied_by_else (world_of c.args.world.now) (optional_bodies_of c.args.bodies.now) c.args.refs (else_of c.in-If.other))
    (ap (copied_by (world_of c.args.world.now) (optional_bodies_of c.args.bodies.now) c.args.refs) (ap stmt_of c.in-If.is ∙ stmt_of-If _ _)) (search rules)

pub spend_stmt-returns-in_ok-left-in-If : goal.spend_stmt-returns-in_ok-left-in-If
spend_stmt-returns-in_ok-left-in-If t c =
    leaves_at _ _ _ (copied_by_arms (world_of c.args.world.now) (optional_bodies_of c.args.bodies.now) c.args.refs (arms_of c.in-If.arms.items) + copied_by_else (world_of c.args.world.now) (optional_bodies_of c.args.bodies.now) c.args.refs (else_of c.in-If.other))
    (ap (copied_by (world_of c.args.world.now) (optional_bodies_of c.args.bodies.now) c.args.refs) (ap stmt_of c.in-If.is ∙ stmt_of-If _ _)) (search rules)

pub spend_stmt-returns-in_ok-left-in-While-2 : goal.spend_stmt-returns-in_ok-left-in-While-2
spend_stmt-returns-in_ok-left-in-While-2 t c =
    leaves_at _ _ _ (copied (world_of c.args.world.now) (optional_bodies_of c.args.bodies.now) (term_of c.in-While.guard) + copied_by_terms (world_of c.args.world.now) (optional_bodies_of c.args.bodies.now) (map term_of c.in-While.invariants.items) + copied_by_block (world_of c.args.world.now) (optional_bodies_of c.args.bodies.now) c.args.refs (block_of c.in-While.body))
    (ap (copied_by (world_of c.args.world.now) (optional_bodies_of c.args.bodies.now) c.args.refs) (ap stmt_of c.in-While.is ∙ stmt_of-While c.in-While.field-0 c.in-While.guard c.in-While.invariants c.in-While.body)) (search rules)
