use Rattle.std.proofs.Common.{refl}
use Rattle.vb_tool.proofs.WorkLaws.{budget_works}
use Rattle.vb_tool.proofs.works.execute.Goals as goal

pub returns-then-budget-gt-MAX_EXECUTION_BUDGET : goal.returns-then-budget-gt-MAX_EXECUTION_BUDGET
returns-then-budget-gt-MAX_EXECUTION_BUDGET g c =
    budget_works refl c.args.file.now c.args.method.now c.args.run_file.now c.args.budget c.if-budget-gt-MAX_EXECUTION_BUDGET.true

pub returns : goal.returns
returns g c = c.execute_within.ensures
