-- The plain data that contracts see of steps and of the brackets behind them.
use Rattle.viper_core.specs.View.{stmt_of, loop_of, expr_of, assertion_of, method_of, program_of}
use Rattle.boogie_tree.specs.Whole as whole
use Rattle.enc_expr.specs.Code.{Emitting}
use Rattle.enc_expr.specs.View.{kinds_of}
use Rattle.enc_block.specs.View.{home_of}
use Rattle.enc_units.specs.Steps as s
use Rattle.enc_units.specs.declared.steps.Bracket.{Bracket}
use Rattle.enc_units.specs.declared.steps.Bracket.TheVariants as bracket
use Rattle.enc_units.specs.declared.steps.BranchStep.{BranchStep}
use Rattle.enc_units.specs.declared.steps.BranchStep.TheVariants as branch
use Rattle.enc_units.specs.declared.steps.CodeStep.{CodeStep}
use Rattle.enc_units.specs.declared.steps.CodeStep.TheVariants as code
use Rattle.enc_units.specs.declared.steps.RowStep.{RowStep}
use Rattle.enc_units.specs.declared.steps.RowStep.TheVariants as step
use Rattle.enc_units.specs.declared.writers.Writer.{Writer}

abbrev pub code_step_of : CodeStep → s.CodeStep
code_step_of code.Start = s.Start
code_step_of (code.Plain x) = s.Plain (stmt_of x.now)
code_step_of (code.Head w) = s.Head (loop_of w.now)
code_step_of (code.Turn w) = s.Turn (loop_of w.now)
code_step_of (code.Finish w) = s.Finish (loop_of w.now)
code_step_of (code.After w) = s.After (loop_of w.now)
code_step_of (code.Enter m) = s.Enter (method_of m.now)
code_step_of (code.Leave m turn) = s.Leave (method_of m.now) turn
code_step_of (code.Check m) = s.Check (method_of m.now)
code_step_of (code.Produce at body) = s.Produce at (assertion_of body.now)

abbrev pub branch_step_of : BranchStep → s.BranchStep
branch_step_of (branch.Begin at c) = s.Begin at (expr_of c.now)
branch_step_of branch.Pick = s.Pick
branch_step_of branch.Otherwise = s.Otherwise
branch_step_of branch.End = s.End

abbrev pub step_of : RowStep → s.RowStep
step_of (step.Code a) = s.Code (code_step_of a)
step_of (step.Branch a) = s.Branch (branch_step_of a)

abbrev pub bracket_of : Bracket → s.Bracket
bracket_of bracket.Nothing = s.Nothing
bracket_of (bracket.If c) = s.If (whole.expr_of c.value)
bracket_of bracket.Either = s.Either
bracket_of bracket.Else = s.Else
bracket_of bracket.End = s.End

-- the code of each step, as a writer writes it
unfoldable pub coder_of : Writer → s.RowStep → Emitting s.Bracket
coder_of w = s.step_code (program_of w.program.now) w.unit (kinds_of w.setting.kinds) (home_of w.setting.home.now)
