use Rattle.std.proofs.Common.{◌∙◌, Err, ap, sym, refl}
use Rattle.std.proofs.lemmas.Result.{err_from_is_err_and}
use Rattle.boogie_print.proofs.SpelledLaws.{spelled_printable}
use Rattle.boogie_tree.specs.Whole.{program_of}
use Rattle.tool_common.proofs.FileLaws.{error_is}
use Rattle.boogie_proof.proofs.AnswerLaws.{nothing_fails, never_refused, read_failed}
use Rattle.boogie_proof.proofs.proving.proved.Goals as goal

pub procedure_answers-requires-clause-is_typed : goal.procedure_answers-requires-clause-is_typed
procedure_answers-requires-clause-is_typed g c = let accepted = c.in_ok-program.ensures.accepted in accepted.is_typed

pub procedure_answers-requires-clause-is_printable : goal.procedure_answers-requires-clause-is_printable
procedure_answers-requires-clause-is_printable g c =
    let accepted = c.in_ok-program.ensures.accepted in
    spelled_printable c.args.source.now (program_of c.in_ok-program.program) accepted.text.spelled

pub returns-in_err-program-clause-refused : goal.returns-in_err-program-clause-refused
returns-in_err-program-clause-refused g c r is_r =
    let p = err_from_is_err_and c.from_residual.result c.from_residual.ensures.1 in
    c.in_err-program.ensures.refused r (ap (λ t. Err t) (sym p.2 ∙ error_is p.1 is_r))

pub returns-in_err-program-clause-read : goal.returns-in_err-program-clause-read
returns-in_err-program-clause-read g c is_read =
    let p = err_from_is_err_and c.from_residual.result c.from_residual.ensures.1 in
    absurd (c.in_err-program.ensures.read (ap (λ t. Err t) (sym p.2 ∙ error_is p.1 is_read)))

pub returns-in-Ok-clause-procedures : goal.returns-in-Ok-clause-procedures
returns-in-Ok-clause-procedures g c = record {
  program = program_of c.in_ok-program.program;
  accepted = c.in_ok-program.ensures.accepted;
  as_many = c.in-Ok.ensures.as_many;
  shown = c.in-Ok.ensures.shown;
}

pub returns-in-Ok-clause-nothing_fails : goal.returns-in-Ok-clause-nothing_fails
returns-in-Ok-clause-nothing_fails g c = nothing_fails (record {
  program = program_of c.in_ok-program.program;
  accepted = c.in_ok-program.ensures.accepted;
  as_many = c.in-Ok.ensures.as_many;
  shown = c.in-Ok.ensures.shown;
})

pub returns-clause-refused : goal.returns-clause-refused
returns-clause-refused g c r is_r = absurd (never_refused c.in-Err.fault r (sym c.of_certificates.ensures ∙ error_is refl is_r))

pub returns-clause-read : goal.returns-clause-read
returns-clause-read g c is_read = c.in-Err.ensures.read (ap (λ t. Err t) (read_failed c.in-Err.fault (sym c.of_certificates.ensures ∙ error_is refl is_read)))
