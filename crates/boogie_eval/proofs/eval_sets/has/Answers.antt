use Rattle.std.proofs.Common.{◌∙◌}
use Rattle.boogie_eval.proofs.SetLaws.{listed_is}
use Rattle.boogie_eval.proofs.eval_sets.has.Goals as goal

pub returns : goal.returns
returns c = c.get.ensures.value ∙ listed_is c.args.set.now c.args.key.now c.requires c.get.ensures.reduced
