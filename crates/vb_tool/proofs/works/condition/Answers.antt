use Rattle.std.proofs.Common.{[], refl}
use Rattle.boogie_file.specs.Accepted as file
use Rattle.vb_tool.specs.AcceptedCondition as accepted
use Rattle.vb_tool.specs.Call as call
use Rattle.vb_tool.specs.Command.{Condition}
use Rattle.vb_tool.proofs.WorkLaws.{seen_whole, first_unread, condition_works}
use Rattle.vb_tool.proofs.works.condition.Goals as goal

pub returns-in_err-bytes : goal.returns-in_err-bytes
returns-in_err-bytes g c =
    first_unread (Condition c.args.file.now c.args.procedure.now c.args.label) c.in_err-bytes.ensures.same c.args.file.now [] c.in_err-bytes.field-0.0 refl tt c.from_residual.ensures.1
    c.in_err-bytes.ensures.long c.in_err-bytes.ensures.failed (λ bytes is above. call.conditions bytes is (accepted.of_file (file.size above)))

pub returns : goal.returns
returns g c =
    condition_works c.in_ok-bytes.ensures.same c.args.file.now c.args.procedure.now c.deref.result.now c.args.label c.stated.result c.tell.ensures (seen_whole c.args.file.now refl c.deref.ensures.value c.in_ok-bytes.ensures.whole)
    c.stated.ensures.told c.stated.ensures.refused c.stated.ensures.read
