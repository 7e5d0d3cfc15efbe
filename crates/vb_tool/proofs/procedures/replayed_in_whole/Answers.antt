use Rattle.std.proofs.Common.{◌∙◌, Err, refl, sym, ap, subst}
use Rattle.std.proofs.lemmas.Result.{err_from_is_err_and}
use Rattle.boogie_tree.specs.Whole.{program_of, proc_of, run_of}
use Rattle.boogie_run.specs.Start.{CanRun}
use Rattle.boogie_run.proofs.StartLaws.{same_proc}
use Rattle.run_file_laws.proofs.LiteralLaws.{program_within}
use Rattle.run_file_laws.proofs.BoogieRunLaws.{can_run}
use Rattle.boogie_file.specs.Accepted.{procedure_named}
use Rattle.boogie_file.proofs.StageLaws.{named_there}
use Rattle.vb_tool.proofs.BoogieStages.{file_refused, never_unread, names_it, text_refused, header_refused, name_refused, run_refused, replay_is}
use Rattle.vb_tool.proofs.BoogieVerdicts.{names_differ}
use Rattle.tool_common.proofs.FileLaws.{error_is}
use Rattle.vb_tool.proofs.procedures.replayed_in_whole.Goals as goal

pub returns-in_err-program-clause-refused : goal.returns-in_err-program-clause-refused
returns-in_err-program-clause-refused c r is_r =
    let p = err_from_is_err_and c.from_residual.result c.from_residual.ensures.1 in
    text_refused c.requires.bytes_within c.requires.run_within
    (file_refused c.args.bytes.now c.in_err-program.field-0.0 r (λ q is. c.in_err-program.ensures.refused q (ap (λ t. Err t) is)) (sym p.2 ∙ error_is p.1 is_r))

pub returns-in_err-program-clause-read : goal.returns-in_err-program-clause-read
returns-in_err-program-clause-read c is =
    let p = err_from_is_err_and c.from_residual.result c.from_residual.ensures.1 in
    never_unread c.in_err-program.field-0.0 (λ read. c.in_err-program.ensures.read (ap (λ t. Err t) read)) (sym p.2 ∙ error_is p.1 is)

pub returns-in_err-name-clause-refused : goal.returns-in_err-name-clause-refused
returns-in_err-name-clause-refused c r is_r =
    let p = err_from_is_err_and c.from_residual-in_err-name.result c.from_residual-in_err-name.ensures.1 in
    header_refused c.args.bytes.now c.args.run_bytes.now (program_of c.in_ok-program.program) c.in_ok-program.ensures.accepted c.requires.run_within
    c.in_err-name.field-0.0 r c.in_err-name.ensures.fault (sym p.2 ∙ error_is p.1 is_r)

pub returns-in_default-clause-refused : goal.returns-in_default-clause-refused
returns-in_default-clause-refused c r is_r =
    name_refused c.args.bytes.now c.args.run_bytes.now (program_of c.in_ok-program.program) c.in_ok-program.ensures.accepted c.requires.run_within
    c.in_ok-name.name r c.in_ok-name.ensures.name (ap (procedure_named (program_of c.in_ok-program.program)) (sym c.bytes.ensures) ∙ sym c.procedure_named.ensures ∙ c.in_default.is) (error_is refl is_r)

pub read_boogie_run-requires-clause-names : goal.read_boogie_run-requires-clause-names
read_boogie_run-requires-clause-names c =
    let there = named_there c.in_ok-program.program c.in_ok-name.name c.in-Some.number c.index.result.now (ap (procedure_named (program_of c.in_ok-program.program)) (sym c.bytes.ensures) ∙ sym c.procedure_named.ensures ∙ c.in-Some.is) c.index.ensures in
    names_differ c.in-Some.number (proc_of c.index.result.now) c.in_ok-program.ensures.accepted.text there

pub returns-in_err-run-clause-refused : goal.returns-in_err-run-clause-refused
returns-in_err-run-clause-refused c r is_r =
    let p = err_from_is_err_and c.from_residual-in_err-run.result c.from_residual-in_err-run.ensures.1 in
    let names = names_it c.args.run_bytes.now c.in_ok-program.program c.in_ok-name.name c.in-Some.number c.index.result.now c.in_ok-name.ensures.name (ap (procedure_named (program_of c.in_ok-program.program)) (sym c.bytes.ensures) ∙ sym c.procedure_named.ensures ∙ c.in-Some.is) c.index.ensures in
    run_refused c.args.bytes.now c.args.run_bytes.now (program_of c.in_ok-program.program) c.in_ok-program.ensures.accepted c.requires.run_within
    (proc_of c.index.result.now) c.in_err-run.field-0.0 r names c.in_err-run.ensures.fault (sym p.2 ∙ error_is p.1 is_r)

pub replay-requires-clause-within : goal.replay-requires-clause-within
replay-requires-clause-within c = program_within c.args.bytes.now (program_of c.in_ok-program.program) c.in_ok-program.ensures.accepted.text

pub replay-requires-clause-can_run : goal.replay-requires-clause-can_run
replay-requires-clause-can_run c d is_there =
    let there = named_there c.in_ok-program.program c.in_ok-name.name c.in-Some.number c.index.result.now (ap (procedure_named (program_of c.in_ok-program.program)) (sym c.bytes.ensures) ∙ sym c.procedure_named.ensures ∙ c.in-Some.is) c.index.ensures in
    subst (λ e. CanRun e (run_of c.in_ok-run.run')) (same_proc there is_there)
    (can_run c.args.run_bytes.now (proc_of c.index.result.now) (run_of c.in_ok-run.run') c.in_ok-run.ensures.run)

pub returns-clause-told : goal.returns-clause-told
returns-clause-told c =
    let names = names_it c.args.run_bytes.now c.in_ok-program.program c.in_ok-name.name c.in-Some.number c.index.result.now c.in_ok-name.ensures.name (ap (procedure_named (program_of c.in_ok-program.program)) (sym c.bytes.ensures) ∙ sym c.procedure_named.ensures ∙ c.in-Some.is) c.index.ensures in
    let there = named_there c.in_ok-program.program c.in_ok-name.name c.in-Some.number c.index.result.now (ap (procedure_named (program_of c.in_ok-program.program)) (sym c.bytes.ensures) ∙ sym c.procedure_named.ensures ∙ c.in-Some.is) c.index.ensures in
    replay_is c.args.bytes.now c.args.run_bytes.now (program_of c.in_ok-program.program) c.in_ok-program.ensures.accepted c.requires.run_within
    (proc_of c.index.result.now) (run_of c.in_ok-run.run') c.in_ok-outcome.outcome _ _ names c.in_ok-run.ensures.run
    (c.in_ok-outcome.ensures (proc_of c.index.result.now) there) c.in_ok-told.ensures.status c.in_ok-told.ensures.text
