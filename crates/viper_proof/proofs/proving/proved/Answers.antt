use Rattle.std.proofs.Common.{◌∙◌, Err, ap, sym}
use Rattle.std.proofs.lemmas.Result.{err_from_is_err_and}
use Rattle.tool_common.proofs.FileLaws.{error_is}
use Rattle.viper_core.specs.View.{program_of}
use Rattle.viper_proof.proofs.AnswerLaws.{nothing_fails, never_refused, read_failed}
use Rattle.viper_proof.proofs.proving.proved.Goals as goal

pub returns-in_err-program-clause-refused : goal.returns-in_err-program-clause-refused
returns-in_err-program-clause-refused g c r is_r =
    let p = err_from_is_err_and c.from_residual.result c.from_residual.ensures.1 in
    c.in_err-program.ensures.refused r (ap (λ t. Err t) (sym p.2 ∙ error_is p.1 is_r))

pub returns-in_err-answers-clause-refused : goal.returns-in_err-answers-clause-refused
returns-in_err-answers-clause-refused g c r is_r =
    let p = err_from_is_err_and c.from_residual-in_err-answers.result c.from_residual-in_err-answers.ensures.1 in
    absurd (never_refused c.in_err-answers.field-0.0 r (sym p.2 ∙ error_is p.1 is_r))

pub returns-clause-units : goal.returns-clause-units
returns-clause-units g c = record {
  program = program_of c.in_ok-program.program;
  accepted = c.in_ok-program.ensures.accepted;
  as_many = c.in_ok-answers.ensures.as_many;
  shown = c.in_ok-answers.ensures.shown;
}

pub returns-clause-nothing_fails : goal.returns-clause-nothing_fails
returns-clause-nothing_fails g c = nothing_fails c.args.source.now c.in_ok-answers.answers.items (record {
  program = program_of c.in_ok-program.program;
  accepted = c.in_ok-program.ensures.accepted;
  as_many = c.in_ok-answers.ensures.as_many;
  shown = c.in_ok-answers.ensures.shown;
})

pub returns-in_err-answers-clause-read : goal.returns-in_err-answers-clause-read
returns-in_err-answers-clause-read g c is_read =
    let p = err_from_is_err_and c.from_residual-in_err-answers.result c.from_residual-in_err-answers.ensures.1 in
    c.in_err-answers.ensures.read (ap (λ t. Err t) (read_failed c.in_err-answers.field-0.0 (sym p.2 ∙ error_is p.1 is_read)))

pub returns-in_err-program-clause-read : goal.returns-in_err-program-clause-read
returns-in_err-program-clause-read g c is_read =
    let p = err_from_is_err_and c.from_residual.result c.from_residual.ensures.1 in
    absurd (c.in_err-program.ensures.read (ap (λ t. Err t) (sym p.2 ∙ error_is p.1 is_read)))
