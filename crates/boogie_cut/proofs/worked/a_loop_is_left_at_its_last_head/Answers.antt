use Rattle.std.proofs.Common.{refl}
use Rattle.boogie_cut.proofs.worked.a_loop_is_left_at_its_last_head.Goals as goal

pub returns : goal.returns
returns c labels = refl
