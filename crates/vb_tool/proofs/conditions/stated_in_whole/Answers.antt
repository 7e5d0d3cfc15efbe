use Rattle.std.proofs.Common.{◌∙◌, Err, refl, sym, ap}
use Rattle.std.proofs.lemmas.Result.{err_from_is_err_and}
use Rattle.boogie_tree.specs.Whole.{program_of, proc_of}
use Rattle.boogie_formula.specs.View.{formula_of}
use Rattle.boogie_file.proofs.StageLaws.{named_there, fits_proc}
use Rattle.boogie_file.proofs.Verdicts.{named_within}
use Rattle.tool_common.proofs.FileLaws.{error_is}
use Rattle.vb_tool.proofs.BoogieStages.{never_unread}
use Rattle.vb_tool.proofs.ConditionStages.{file_refused, condition_is}
use Rattle.vb_tool.proofs.conditions.stated_in_whole.Goals as goal

pub returns-in_err-program-clause-refused : goal.returns-in_err-program-clause-refused
returns-in_err-program-clause-refused c r is_r =
    let p = err_from_is_err_and c.from_residual.result c.from_residual.ensures.1 in
    file_refused c.args.bytes.now c.args.name.now c.in_err-program.field-0.0 r (λ q is. c.in_err-program.ensures.refused q (ap (λ t. Err t) is)) (sym p.2 ∙ error_is p.1 is_r)

pub returns-in_err-program-clause-read : goal.returns-in_err-program-clause-read
returns-in_err-program-clause-read c is =
    let p = err_from_is_err_and c.from_residual.result c.from_residual.ensures.1 in
    never_unread c.in_err-program.field-0.0 (λ read. c.in_err-program.ensures.read (ap (λ t. Err t) read)) (sym p.2 ∙ error_is p.1 is)

pub formula-requires-clause-exists : goal.formula-requires-clause-exists
formula-requires-clause-exists c = named_within (program_of c.in_ok-program.program) c.args.name.now c.in_ok-program.number c.in_ok-program.ensures.named

pub print_formula-requires-clause-free : goal.print_formula-requires-clause-free
print_formula-requires-clause-free c =
    let q = program_of c.in_ok-program.program in
    let there = named_there c.in_ok-program.program c.args.name.now c.in_ok-program.number c.index.result.now c.in_ok-program.ensures.named c.index.ensures in
    (fits_proc c.args.bytes.now q c.in_ok-program.number (proc_of c.index.result.now) c.in_ok-program.ensures.accepted.text there).name

pub print_formula-requires-clause-printable : goal.print_formula-requires-clause-printable
print_formula-requires-clause-printable c =
    let q = program_of c.in_ok-program.program in
    let there = named_there c.in_ok-program.program c.args.name.now c.in_ok-program.number c.index.result.now c.in_ok-program.ensures.named c.index.ensures in
    let fits = fits_proc c.args.bytes.now q c.in_ok-program.number (proc_of c.index.result.now) c.in_ok-program.ensures.accepted.text there in
    c.in_ok-condition.ensures.printable (proc_of c.index.result.now) there fits.body

pub returns-clause-told : goal.returns-clause-told
returns-clause-told c =
    let q = program_of c.in_ok-program.program in
    let d = proc_of c.index.result.now in
    let named = c.in_ok-program.ensures.named in
    let there = named_there c.in_ok-program.program c.args.name.now c.in_ok-program.number c.index.result.now named c.index.ensures in
    condition_is c.args.bytes.now c.args.name.now c.args.label q c.in_ok-program.number d (formula_of c.in_ok-condition.condition) _ c.in_ok-text.text.items c.in_ok-program.ensures.accepted named there
    (c.in_ok-condition.ensures.built d there) c.in_ok-condition.ensures.typed (c.in_ok-condition.ensures.follows d there) (c.in_ok-condition.ensures.exact d there)
    c.in_ok-text.ensures.text c.in_ok-text.ensures.spells c.in_ok-text.ensures.no_other refl
