use Rattle.std.proofs.Common.{◌∙◌, Err, Some, refl, sym, ap}
use Rattle.std.proofs.lemmas.Result.{err_from_is_err_and}
use Rattle.viper_core.specs.View.{program_of}
use Rattle.tool_common.proofs.FileLaws.{error_is}
use Rattle.vb_tool.proofs.ExecutionStages.{text_refused, method_refused, run_refused, execution_is}
use Rattle.vb_tool.proofs.ExecutionUnits.{body_named_exists, unit_is, can_execute}
use Rattle.vb_tool.proofs.executions.executed.Goals as goal

pub returns-in_err-program-clause-refused : goal.returns-in_err-program-clause-refused
returns-in_err-program-clause-refused c r is_r =
    let p = err_from_is_err_and c.from_residual.result c.from_residual.ensures.1 in
    text_refused c.requires.bytes_within c.requires.run_within
    (c.in_err-program.ensures.refused r (ap (λ t. Err t) (sym p.2 ∙ error_is p.1 is_r)))

pub returns-in_default-clause-refused : goal.returns-in_default-clause-refused
returns-in_default-clause-refused c r is_r =
    method_refused _ _ _ (program_of c.in_ok-program.program) r c.in_ok-program.ensures.framed c.requires.run_within (sym c.body_named.ensures ∙ c.in_default.is) (error_is refl is_r)

pub returns-in_err-end-clause-refused : goal.returns-in_err-end-clause-refused
returns-in_err-end-clause-refused c r is_r =
    let p = err_from_is_err_and c.from_residual-in_err-end.result c.from_residual-in_err-end.ensures.1 in
    run_refused _ _ _ (program_of c.in_ok-program.program) c.in-Some.unit c.in_err-end.field-0.0 r c.in_ok-program.ensures.framed c.requires.run_within
    (sym c.body_named.ensures ∙ c.in-Some.is) c.in_err-end.ensures.fault (sym p.2 ∙ error_is p.1 is_r)

pub returns-in_default-index-clause-refused : goal.returns-in_default-index-clause-refused
returns-in_default-index-clause-refused c r is_r =
    let q = program_of c.in_ok-program.program in
    let (k, is, there) = unit_is q c.args.name.now c.in-Some.unit (sym c.body_named.ensures ∙ c.in-Some.is) c.index.result.now c.index.ensures in
    let other = c.in_default-index.is in
    absurd (cc)

pub exec_on_file-requires-clause-unit : goal.exec_on_file-requires-clause-unit
exec_on_file-requires-clause-unit c = body_named_exists (program_of c.in_ok-program.program) c.args.name.now c.in-Some.unit (sym c.body_named.ensures ∙ c.in-Some.is)

pub exec_on_file-requires-clause-opens : goal.exec_on_file-requires-clause-opens
exec_on_file-requires-clause-opens c = λ run spelled.
    let q = program_of c.in_ok-program.program in
    can_execute q c.args.name.now c.in-Some.unit (sym c.body_named.ensures ∙ c.in-Some.is) c.index.result.now c.in-Method.method c.index.ensures c.in-Method.is
    c.args.run_bytes.now run spelled

pub returns-clause-told : goal.returns-clause-told
returns-clause-told c =
    let q = program_of c.in_ok-program.program in
    let unit = unit_is q c.args.name.now c.in-Some.unit (sym c.body_named.ensures ∙ c.in-Some.is) c.index.result.now c.index.ensures in
    let e = c.in_ok-end.ensures.ends in
    execution_is _ _ _ (record { program = q; unit = c.in-Some.unit; number = c.in-Method.method; run = e.run }) c.args.budget _ _ c.in_ok-end.end
    (record {
      framed = c.in_ok-program.ensures.framed;
      small = c.requires.run_within;
      named = sym c.body_named.ensures ∙ c.in-Some.is;
      is_method = unit.2 ∙ ap (λ x. Some x) c.in-Method.is;
      spelled = e.spelled;
    }) e.ends c.in_ok-told.ensures.status c.in_ok-told.ensures.text
