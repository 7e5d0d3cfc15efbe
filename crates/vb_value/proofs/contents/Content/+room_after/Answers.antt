use Rattle.std.proofs.Common.{arith}
use Rattle.vb_value.specs.View.{content_of}
use Rattle.vb_value.proofs.ContentLaws.{nodes_pos}
use Rattle.vb_value.proofs.contents.Content.+room_after.Goals as goal

pub returns-in_err-room : goal.returns-in_err-room
returns-in_err-room t c =
    let some = nodes_pos (content_of c.args.self.now) in
    rw c.from_residual.ensures (λ fits. c.in_err-room.ensures (omega arith))
