use Rattle.std.proofs.Common.{◌∙◌, [], ◌∷◌, refl}
use Rattle.vb_tool.specs.AcceptedExecution as accepted
use Rattle.vb_tool.specs.Call as call
use Rattle.vb_tool.specs.Command.{Execute}
use Rattle.vb_tool.proofs.WorkLaws.{seen_whole, first_unread, second_unread, execution_works}
use Rattle.vb_tool.proofs.works.execute_within.Goals as goal

pub returns-in_err-text : goal.returns-in_err-text
returns-in_err-text g c =
    first_unread (Execute c.args.file.now c.args.method.now c.args.run_file.now c.args.budget) c.in_err-text.ensures.same c.args.file.now (c.args.run_file.now ∷ []) c.in_err-text.field-0.0 refl c.requires c.from_residual.ensures.1
    c.in_err-text.ensures.long c.in_err-text.ensures.failed (λ bytes is above. call.execution_too_long bytes c.requires is above)

pub returns-in_err-run_text : goal.returns-in_err-run_text
returns-in_err-run_text g c =
    second_unread (Execute c.args.file.now c.args.method.now c.args.run_file.now c.args.budget) (c.in_err-run_text.ensures.files ∙ c.in_ok-text.ensures.same) c.args.file.now c.args.run_file.now c.in_ok-text.text.items c.in_err-run_text.field-0.0 refl c.requires
    c.in_ok-text.ensures.whole c.in_ok-text.ensures.within c.in_ok-text.ensures.same c.in_ok-text.ensures.later c.from_residual-in_err-run_text.ensures.1
    c.in_err-run_text.ensures.refused c.in_err-run_text.ensures.read (λ run_bytes is above. call.executes c.in_ok-text.text.items run_bytes c.requires c.in_ok-text.ensures.whole is (accepted.run_size c.in_ok-text.ensures.within above))

pub returns : goal.returns
returns g c =
    execution_works (c.in_ok-run_text.ensures.files ∙ c.in_ok-text.ensures.same) c.args.file.now c.args.method.now c.args.run_file.now c.deref.result.now c.deref-2.result.now c.args.budget c.executed.result c.requires c.tell.ensures
    (seen_whole c.args.file.now refl c.deref.ensures.value c.in_ok-text.ensures.whole) (seen_whole c.args.run_file.now c.in_ok-text.ensures.same c.deref-2.ensures.value c.in_ok-run_text.ensures.whole)
    c.executed.ensures.told c.executed.ensures.refused c.executed.ensures.read
