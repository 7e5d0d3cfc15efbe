use Rattle.boogie_cut.proofs.WriteLaws.{param_is}
use Rattle.boogie_cut.proofs.calls.params.Goals as goal

pub returns : goal.returns
returns c = param_is c.args.proc.now c.deref.result.now c.first_of.result.now c.deref.ensures.value c.first_of.ensures
