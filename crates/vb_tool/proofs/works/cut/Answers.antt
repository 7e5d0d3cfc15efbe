use Rattle.std.proofs.Common.{[], refl}
use Rattle.vb_tool.specs.AcceptedCut as accepted
use Rattle.vb_tool.specs.Call as call
use Rattle.vb_tool.specs.Command.{Cut}
use Rattle.vb_tool.proofs.WorkLaws.{seen_whole, first_unread, cut_works}
use Rattle.vb_tool.proofs.works.cut.Goals as goal

pub returns-in_err-bytes : goal.returns-in_err-bytes
returns-in_err-bytes g c =
    first_unread (Cut c.args.file.now) c.in_err-bytes.ensures.same c.args.file.now [] c.in_err-bytes.field-0.0 refl tt c.from_residual.ensures.1
    c.in_err-bytes.ensures.long c.in_err-bytes.ensures.failed (λ bytes is above. call.cuts bytes is (accepted.size above))

pub returns : goal.returns
returns g c =
    cut_works c.in_ok-bytes.ensures.same c.args.file.now c.deref.result.now c.without_loops.result c.tell.ensures (seen_whole c.args.file.now refl c.deref.ensures.value c.in_ok-bytes.ensures.whole)
    c.without_loops.ensures.told c.without_loops.ensures.refused c.without_loops.ensures.read
