use Rattle.std.proofs.Common.{◌∙◌, refl, sym}
use Rattle.std.proofs.lemmas.Result.{err_from_is_err_and}
use Rattle.boogie_tree.specs.Whole.{program_of}
use Rattle.boogie_file.proofs.StageLaws.{read_refusal, type_refusal}
use Rattle.tool_common.proofs.FileLaws.{error_is}
use Rattle.boogie_file.proofs.accepting.boogie_program.Goals as goal

pub returns-in_err-program-clause-refused : goal.returns-in_err-program-clause-refused
returns-in_err-program-clause-refused c r is_r =
    let p = err_from_is_err_and c.from_residual.result c.from_residual.ensures.1 in
    read_refusal c.args.bytes.now c.in_err-program.field-0.0 r c.in_err-program.ensures.fault (sym p.2 ∙ error_is p.1 is_r)

pub returns-in-Err-clause-refused : goal.returns-in-Err-clause-refused
returns-in-Err-clause-refused c r is_r =
    type_refusal c.args.bytes.now (program_of c.in_ok-program.program) c.in-Err.number r c.in_ok-program.ensures.program c.in-Err.ensures.first (error_is refl is_r)

pub returns-in-Ok-clause-accepted : goal.returns-in-Ok-clause-accepted
returns-in-Ok-clause-accepted c = record { small = c.requires; text = c.in_ok-program.ensures.program; is_typed = c.in-Ok.ensures.typed.0 refl }
