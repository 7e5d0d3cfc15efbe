use Rattle.std.proofs.Common.{◌∙◌, ap, sym}
use Rattle.viper_core.specs.View.{stmt_of}
use Rattle.viper_scope.specs.Answers.{context_of}
use Rattle.viper_types.specs.Answers.{frame_of, lent_rhs_of}
use Rattle.viper_scope.specs.Outcome.{Found, then_typed}
use Rattle.viper_types.specs.Stepping.{AssignedVariable, declaring}
use Rattle.viper_types.proofs.Kept.{kept_value}
use Rattle.viper_scope.proofs.Judged.{at_error, refuses_along}
use Rattle.viper_types.proofs.simple.variable.Goals as goal

pub returns-in_err-stmt-clause-answers : goal.returns-in_err-stmt-clause-answers
returns-in_err-stmt-clause-answers c =
    let go = λ (v : AssignedVariable). declaring c.args.context.now.lists (context_of c.args.context.now) (frame_of c.args.frame.now) c.args.at v (lent_rhs_of c.args.rhs) in
    at_error stmt_of _ c.in_err-stmt.field-0.0 c.from_residual-in_err-stmt.result c.from_residual-in_err-stmt.ensures.1
    (refuses_along c.in_err-stmt.field-0.0 (ap (λ j. then_typed j go) c.in_ok-target.ensures.answers) c.in_err-stmt.ensures)

pub returns-clause-answers : goal.returns-clause-answers
returns-clause-answers c =
    let go = λ (v : AssignedVariable). declaring c.args.context.now.lists (context_of c.args.context.now) (frame_of c.args.frame.now) c.args.at v (lent_rhs_of c.args.rhs) in
    ap (λ j. then_typed j go) c.in_ok-target.ensures.answers ∙ c.in_ok-stmt.ensures ∙ ap Found (ap stmt_of (sym (kept_value c.declare-declared.result c.in_ok-stmt-2.ensures)))
