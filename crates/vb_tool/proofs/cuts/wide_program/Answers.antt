use Rattle.std.proofs.Common.{◌∙◌, IfSome, is_some, refl, sym, ap, subst}
use Rattle.std.proofs.lemmas.Result.{err_from_is_err_and}
use Rattle.boogie_loops.specs.View.{wprogram_of}
use Rattle.boogie_loops.specs.WideTypes.{IsFirstIllTypedWide}
use Rattle.vb_tool.proofs.CutStages.{read_refusal, type_refusal}
use Rattle.tool_common.proofs.FileLaws.{error_is}
use Rattle.vb_tool.proofs.cuts.wide_program.Goals as goal

pub returns-in_err-program-clause-refused : goal.returns-in_err-program-clause-refused
returns-in_err-program-clause-refused c r is_r =
    let p = err_from_is_err_and c.from_residual.result c.from_residual.ensures.1 in
    read_refusal c.args.bytes.now c.in_err-program.field-0.0 r c.in_err-program.ensures.fault (sym p.2 ∙ error_is p.1 is_r)

pub returns-in-Some-clause-refused : goal.returns-in-Some-clause-refused
returns-in-Some-clause-refused c r is_r =
    let q = wprogram_of c.in_ok-program.program in
    type_refusal c.args.bytes.now q c.in-Some.number r c.in_ok-program.ensures.program
    (subst (λ o. IfSome o (IsFirstIllTypedWide q)) c.in-Some.is c.in_ok-first.ensures.first) (error_is refl is_r)

pub returns-in-None-clause-accepted : goal.returns-in-None-clause-accepted
returns-in-None-clause-accepted c =
    record { small = c.requires; text = c.in_ok-program.ensures.program; is_typed = c.in_ok-first.ensures.typed.0 (ap is_some c.in-None.is) }
