use Rattle.std.proofs.Common.{◌∙◌, Err, ap, refl, sym}
use Rattle.std.proofs.lemmas.Result.{err_from_is_err_and}
use Rattle.viper_core.specs.View.{program_of}
use Rattle.tool_common.proofs.FileLaws.{error_is}
use Rattle.vb_tool.proofs.ExecutionStages.{unframed_refused}
use Rattle.vb_tool.proofs.Verdicts.{viper_refused, never_unread}
use Rattle.vb_tool.specs.AcceptedExecution as execution
use Rattle.vb_tool.proofs.stages.framed_program.Goals as goal

pub returns-in_err-found-clause-refused : goal.returns-in_err-found-clause-refused
returns-in_err-found-clause-refused c r is_r =
    let p = err_from_is_err_and c.from_residual.result c.from_residual.ensures.1 in
    execution.of_text (viper_refused c.args.bytes.now c.in_err-found.field-0.0 r (λ q e. c.in_err-found.ensures.refused q (ap (λ u. Err u) e)) (sym p.2 ∙ error_is p.1 is_r))

pub returns-in_err-found-clause-read : goal.returns-in_err-found-clause-read
returns-in_err-found-clause-read c is =
    let p = err_from_is_err_and c.from_residual.result c.from_residual.ensures.1 in
    never_unread c.in_err-found.field-0.0 (sym p.2 ∙ error_is p.1 is)

pub returns-in-Some-clause-refused : goal.returns-in-Some-clause-refused
returns-in-Some-clause-refused c r is_r =
    let a = c.in_ok-found.ensures.accepted in
    unframed_refused c.args.bytes.now (program_of c.in_ok-found.found.0) c.in-Some.at r a.0 (a.1 ∙ c.in-Some.is) (error_is refl is_r)

pub returns-in-None-clause-framed : goal.returns-in-None-clause-framed
returns-in-None-clause-framed c = let a = c.in_ok-found.ensures.accepted in record { accepted = a.0; framed = a.1 ∙ c.in-None.is }
