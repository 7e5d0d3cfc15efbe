use Rattle.boogie_loops_types.proofs.HeadLaws.{return_is}
use Rattle.boogie_loops_types.proofs.heads.returns.Goals as goal

pub returns : goal.returns
returns c = return_is c.args.proc.now c.deref.ensures.value c.rest_of.ensures c.first_of.ensures
