use Rattle.std.proofs.Common.{◌∙◌, Err, refl, sym, ap}
use Rattle.std.proofs.lemmas.Result.{err_from_is_err_and}
use Rattle.boogie_tree.specs.Whole.{program_of}
use Rattle.boogie_file.specs.Accepted.{procedure_named}
use Rattle.tool_common.proofs.FileLaws.{error_is}
use Rattle.boogie_file.proofs.StageLaws.{text_refused, name_refused}
use Rattle.boogie_file.proofs.accepting.accepted.Goals as goal

pub returns-in_err-program-clause-refused : goal.returns-in_err-program-clause-refused
returns-in_err-program-clause-refused c r is_r =
    let p = err_from_is_err_and c.from_residual.result c.from_residual.ensures.1 in
    text_refused c.requires (c.in_err-program.ensures.refused r (ap (λ t. Err t) (sym p.2 ∙ error_is p.1 is_r)))

pub returns-in-Some-clause-named : goal.returns-in-Some-clause-named
returns-in-Some-clause-named c =
    let q = program_of c.in_ok-program.program in
    sym (c.procedure_named.ensures ∙ ap (procedure_named q) c.as_bytes.ensures.value) ∙ c.in-Some.is

pub returns-in-None-clause-refused : goal.returns-in-None-clause-refused
returns-in-None-clause-refused c r is_r =
    let q = program_of c.in_ok-program.program in
    name_refused c.args.bytes.now c.args.name.now q r c.in_ok-program.ensures.accepted
    (sym (c.procedure_named.ensures ∙ ap (procedure_named q) c.as_bytes.ensures.value) ∙ c.in-None.is) (error_is refl is_r)
