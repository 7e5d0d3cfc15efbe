use Rattle.std.proofs.Common.{◌∙◌}
use Rattle.boogie_file.proofs.StageLaws.{named_in}
use Rattle.boogie_file.proofs.accepting.procedure_named.Goals as goal

pub returns : goal.returns
returns c = rw (← c.deref.ensures.value) (c.place_of.ensures ∙ named_in c.deref.result.now c.args.name.now)
