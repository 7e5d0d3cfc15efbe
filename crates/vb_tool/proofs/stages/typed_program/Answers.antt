use Rattle.std.proofs.Common.{◌∙◌, Err, ap, sym}
use Rattle.std.proofs.lemmas.Result.{err_from_is_err_and}
use Rattle.tool_common.proofs.FileLaws.{error_is}
use Rattle.vb_tool.proofs.Verdicts.{viper_refused, never_unread}
use Rattle.vb_tool.proofs.stages.typed_program.Goals as goal

pub returns-in_err-program-clause-refused : goal.returns-in_err-program-clause-refused
returns-in_err-program-clause-refused c r is_r =
    let p = err_from_is_err_and c.from_residual.result c.from_residual.ensures.1 in
    viper_refused c.args.bytes.now c.in_err-program.field-0.0 r (λ q e. c.in_err-program.ensures.refused q (ap (λ u. Err u) e)) (sym p.2 ∙ error_is p.1 is_r)

pub returns-in_err-program-clause-read : goal.returns-in_err-program-clause-read
returns-in_err-program-clause-read c is =
    let p = err_from_is_err_and c.from_residual.result c.from_residual.ensures.1 in
    never_unread c.in_err-program.field-0.0 (sym p.2 ∙ error_is p.1 is)
