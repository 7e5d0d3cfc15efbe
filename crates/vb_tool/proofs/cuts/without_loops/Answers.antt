use Rattle.std.proofs.Common.{◌∙◌, Err, refl, sym, ap}
use Rattle.std.proofs.lemmas.Result.{err_from_is_err_and}
use Rattle.boogie_loops.specs.View.{wprogram_of}
use Rattle.vb_tool.proofs.CutStages.{text_refused, printable_wide, cut_is}
use Rattle.tool_common.proofs.FileLaws.{error_is}
use Rattle.vb_tool.proofs.cuts.without_loops.Goals as goal

pub returns-in_err-program-clause-refused : goal.returns-in_err-program-clause-refused
returns-in_err-program-clause-refused c r is_r =
    let p = err_from_is_err_and c.from_residual.result c.from_residual.ensures.1 in
    text_refused c.requires (c.in_err-program.ensures.refused r (ap (λ t. Err t) (sym p.2 ∙ error_is p.1 is_r)))

pub print-requires : goal.print-requires
print-requires c =
    c.in_ok-written.ensures.printable (printable_wide c.args.bytes.now (wprogram_of c.in_ok-program.program) c.in_ok-program.ensures.accepted)

pub returns-clause-told : goal.returns-clause-told
returns-clause-told c =
    cut_is c.args.bytes.now (wprogram_of c.in_ok-program.program) c.in_ok-written.written c.in_ok-text.text.items _ c.in_ok-program.ensures.accepted c.in_ok-written.ensures.written
    c.in_ok-text.ensures.text c.in_ok-text.ensures.spells refl
