use Rattle.std.proofs.Common.{◌∙◌, [], ◌∷◌, refl}
use Rattle.vb_tool.specs.AcceptedReplay as accepted
use Rattle.vb_tool.specs.Call as call
use Rattle.vb_tool.specs.Command.{Replay}
use Rattle.vb_tool.proofs.WorkLaws.{seen_whole, first_unread, second_unread, replay_works}
use Rattle.vb_tool.proofs.works.replay.Goals as goal

pub returns-in_err-bytes : goal.returns-in_err-bytes
returns-in_err-bytes g c =
    first_unread (Replay c.args.file.now c.args.run_file.now) c.in_err-bytes.ensures.same c.args.file.now (c.args.run_file.now ∷ []) c.in_err-bytes.field-0.0 refl tt c.from_residual.ensures.1
    c.in_err-bytes.ensures.long c.in_err-bytes.ensures.failed (λ bytes is above. call.replay_too_long bytes is above)

pub returns-in_err-run_bytes : goal.returns-in_err-run_bytes
returns-in_err-run_bytes g c =
    second_unread (Replay c.args.file.now c.args.run_file.now) (c.in_err-run_bytes.ensures.files ∙ c.in_ok-bytes.ensures.same) c.args.file.now c.args.run_file.now c.in_ok-bytes.bytes.items c.in_err-run_bytes.field-0.0 refl tt
    c.in_ok-bytes.ensures.whole c.in_ok-bytes.ensures.within c.in_ok-bytes.ensures.same c.in_ok-bytes.ensures.later c.from_residual-in_err-run_bytes.ensures.1
    c.in_err-run_bytes.ensures.refused c.in_err-run_bytes.ensures.read (λ run_bytes is above. call.replays c.in_ok-bytes.bytes.items run_bytes c.in_ok-bytes.ensures.whole is (accepted.run_size c.in_ok-bytes.ensures.within above))

pub returns : goal.returns
returns g c =
    replay_works (c.in_ok-run_bytes.ensures.files ∙ c.in_ok-bytes.ensures.same) c.args.file.now c.args.run_file.now c.deref.result.now c.deref-2.result.now c.replayed.result c.tell.ensures
    (seen_whole c.args.file.now refl c.deref.ensures.value c.in_ok-bytes.ensures.whole) (seen_whole c.args.run_file.now c.in_ok-bytes.ensures.same c.deref-2.ensures.value c.in_ok-run_bytes.ensures.whole)
    c.replayed.ensures.told c.replayed.ensures.refused c.replayed.ensures.read
