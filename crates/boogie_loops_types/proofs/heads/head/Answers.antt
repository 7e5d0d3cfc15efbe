use Rattle.boogie_loops_types.proofs.HeadLaws.{head_is}
use Rattle.boogie_loops_types.proofs.heads.head.Goals as goal

pub returns : goal.returns
returns c = head_is c.args.proc.now c.deref.ensures.value c.first_of.ensures
