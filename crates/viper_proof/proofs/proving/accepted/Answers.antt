use Rattle.std.proofs.Common.{◌∙◌, Err, ap, refl, sym, arith}
use Rattle.std.proofs.lemmas.Result.{err_from_is_err_and}
use Rattle.tool_common.proofs.FileLaws.{error_is}
use Rattle.viper_proof.proofs.AnswerLaws.{size_refused, file_refused, never_unread}
use Rattle.viper_proof.proofs.proving.accepted.Goals as goal

pub returns-then-source-gt-MAX_VIPER_BYTES-clause-refused : goal.returns-then-source-gt-MAX_VIPER_BYTES-clause-refused
returns-then-source-gt-MAX_VIPER_BYTES-clause-refused c r is_r = size_refused c.args.source.now r (omega arith) (error_is refl is_r)

pub returns-in_err-program-clause-refused : goal.returns-in_err-program-clause-refused
returns-in_err-program-clause-refused c r is_r =
    let p = err_from_is_err_and c.from_residual.result c.from_residual.ensures.1 in
    file_refused c.args.source.now c.in_err-program.field-0.0 r (omega arith) (λ q e. c.in_err-program.ensures.refused q (ap (λ t. Err t) e)) (sym p.2 ∙ error_is p.1 is_r)

pub returns-in_err-program-clause-read : goal.returns-in_err-program-clause-read
returns-in_err-program-clause-read c is_read =
    let p = err_from_is_err_and c.from_residual.result c.from_residual.ensures.1 in
    never_unread c.in_err-program.field-0.0 (sym p.2 ∙ error_is p.1 is_read)
