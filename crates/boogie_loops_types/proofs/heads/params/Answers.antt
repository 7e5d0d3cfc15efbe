use Rattle.boogie_loops_types.proofs.HeadLaws.{param_is}
use Rattle.boogie_loops_types.proofs.heads.params.Goals as goal

pub returns : goal.returns
returns c = param_is c.args.proc.now c.deref.ensures.value c.first_of.ensures
