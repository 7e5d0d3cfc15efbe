use Rattle.std.proofs.Common.{◌∙◌, Err, All, map, refl, sym, ap, subst}
use Rattle.std.proofs.lemmas.Result.{err_from_is_err_and}
use Rattle.lemmas.proofs.Lists.{item_there}
use Rattle.viper_core.specs.View.{program_of}
use Rattle.viper_meaning.specs.Units.{Opens}
use Rattle.viper_state.specs.View.{event_of}
use Rattle.enc_locals.specs.Opened.{start_settings, IsNamedSetting}
use Rattle.run_file.proofs.SpelledLaws.{spelled_good}
use Rattle.tool_common.proofs.FileLaws.{error_is}
use Rattle.vb_tool.specs.Moved.{moved_text}
use Rattle.vb_tool.specs.Outcome.{with_moved}
use Rattle.vb_tool.proofs.RunOfUnits.{named_exists, opens}
use Rattle.vb_tool.proofs.RunStages.{text_refused, unit_refused, run_refused, told_is}
use Rattle.vb_tool.proofs.stages.outcome.Goals as goal

pub returns-in_err-program-clause-refused : goal.returns-in_err-program-clause-refused
returns-in_err-program-clause-refused c r is_r =
    let p = err_from_is_err_and c.from_residual.result c.from_residual.ensures.1 in
    text_refused c.requires.bytes_within c.requires.run_within
    (c.in_err-program.ensures.refused r (ap (λ t. Err t) (sym p.2 ∙ error_is p.1 is_r)))

pub returns-in_default-clause-refused : goal.returns-in_default-clause-refused
returns-in_default-clause-refused c r is_r =
    unit_refused _ _ _ (program_of c.in_ok-program.program) r c.in_ok-program.ensures.accepted c.requires.run_within (sym c.unit_named.ensures ∙ c.in_default.is) (error_is refl is_r)

pub returns-in_err-ended-clause-refused : goal.returns-in_err-ended-clause-refused
returns-in_err-ended-clause-refused c r is_r =
    let p = err_from_is_err_and c.from_residual-in_err-ended.result c.from_residual-in_err-ended.ensures.1 in
    run_refused _ _ _ (program_of c.in_ok-program.program) c.in-Some.unit c.in_err-ended.field-0.0 r c.in_ok-program.ensures.accepted c.requires.run_within
    (sym c.unit_named.ensures ∙ c.in-Some.is) c.in_err-ended.ensures.fault (sym p.2 ∙ error_is p.1 is_r)

pub run_on_file-requires-clause-unit : goal.run_on_file-requires-clause-unit
run_on_file-requires-clause-unit c = named_exists (program_of c.in_ok-program.program) c.args.name.now c.in-Some.unit (sym c.unit_named.ensures ∙ c.in-Some.is)

pub run_on_file-requires-clause-opens : goal.run_on_file-requires-clause-opens
run_on_file-requires-clause-opens c = λ run spelled.
    let q = program_of c.in_ok-program.program in
    opens q c.in_ok-program.ensures.formed c.in-Some.unit (named_exists q c.args.name.now c.in-Some.unit (sym c.unit_named.ensures ∙ c.in-Some.is))
    run.opening (spelled_good c.args.run_bytes.now q c.in-Some.unit run spelled).opening_fits

pub told_of-requires-clause-exists : goal.told_of-requires-clause-exists
told_of-requires-clause-exists c = named_exists (program_of c.in_ok-program.program) c.args.name.now c.in-Some.unit (sym c.unit_named.ensures ∙ c.in-Some.is)

pub told_of-requires-clause-opens : goal.told_of-requires-clause-opens
told_of-requires-clause-opens c =
    let q = program_of c.in_ok-program.program in
    let e = c.in_ok-ended.ensures.ends in
    subst (Opens q c.in-Some.unit) (sym e.opening)
    (opens q c.in_ok-program.ensures.formed c.in-Some.unit (named_exists q c.args.name.now c.in-Some.unit (sym c.unit_named.ensures ∙ c.in-Some.is))
    e.run.opening (spelled_good c.args.run_bytes.now q c.in-Some.unit e.run e.spelled).opening_fits)

pub returns-clause-told : goal.returns-clause-told
returns-clause-told c =
    let q = program_of c.in_ok-program.program in
    let e = c.in_ok-ended.ensures.ends in
    let (w, there) = item_there q.units c.in-Some.unit (named_exists q c.args.name.now c.in-Some.unit (sym c.unit_named.ensures ∙ c.in-Some.is)) in
    told_is _ _ _ (record { program = q; unit = c.in-Some.unit; run = e.run }) w _ _ c.in_ok-ended.ended.end
    (record {
      accepted = c.in_ok-program.ensures.accepted;
      small = c.requires.run_within;
      named = sym c.unit_named.ensures ∙ c.in-Some.is;
      spelled = e.spelled;
    }) there e.ends c.in_ok-told_of.ensures.status
    (c.in_ok-told_of.ensures.text w there ∙ ap (λ o. with_moved c.in_ok-ended.ended.end.outcome c.in_ok-ended.ended.end.unused (moved_text q w o (map event_of c.in_ok-ended.ended.end.events.items))) e.opening)
    (λ label is. let named = c.in_ok-told_of.ensures.named label is in (named.0, subst (λ o. All IsNamedSetting (start_settings o)) e.opening named.1))
