use Rattle.std.proofs.Common.{◌∙◌, Err, ap, sym, subst}
use Rattle.std.proofs.lemmas.Result.{err_from_is_err_and}
use Rattle.boogie_file.specs.Accepted.{IsRefusal}
use Rattle.tool_common.proofs.FileLaws.{error_is}
use Rattle.boogie_file.proofs.FileLaws.{file_refusal, file_unread, are_found}
use Rattle.boogie_file.proofs.accepting.found.Goals as goal

pub returns-in_err-bytes-clause-refused : goal.returns-in_err-bytes-clause-refused
returns-in_err-bytes-clause-refused g c r is_r =
    let p = err_from_is_err_and c.from_residual.result c.from_residual.ensures.1 in
    file_refusal (g.H.Shelf.files c.args.shelf.now) c.args.file.now c.args.name.now c.in_err-bytes.field-0.0 r (λ long. c.in_err-bytes.ensures.long (ap (λ fault. Err fault) long))
    (sym p.2 ∙ error_is p.1 is_r)

pub returns-in_err-bytes-clause-read : goal.returns-in_err-bytes-clause-read
returns-in_err-bytes-clause-read g c is_read =
    let p = err_from_is_err_and c.from_residual.result c.from_residual.ensures.1 in
    file_unread _ c.in_err-bytes.field-0.0 (λ failed. c.in_err-bytes.ensures.failed (ap (λ fault. Err fault) failed)) (sym p.2 ∙ error_is p.1 is_read)

pub returns-clause-refused : goal.returns-clause-refused
returns-clause-refused g c r is_r = record {
  bytes = c.in_ok-bytes.bytes.items;
  is = c.in_ok-bytes.ensures.whole;
  refused = subst (λ b. IsRefusal b c.args.name.now r) c.deref.ensures.value (c.accepted.ensures.refused r is_r);
}

pub returns-clause-found : goal.returns-clause-found
returns-clause-found g c =
    are_found (g.H.Shelf.files c.args.shelf.now) c.args.file.now c.args.name.now c.in_ok-bytes.bytes.items _ c.in_ok-bytes.ensures.whole
    (rw (← c.deref.ensures.value) c.accepted.ensures.accepted) c.accepted.ensures.named
