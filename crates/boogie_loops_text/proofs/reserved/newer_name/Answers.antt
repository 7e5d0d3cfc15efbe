use Rattle.std.proofs.Common.{◌++◌, ap}
use Rattle.boogie_loops_text.proofs.NameSets.{takes_at}
use Rattle.boogie_loops_text.proofs.reserved.newer_name.Goals as goal

pub returns-clause-takes : goal.returns-clause-takes
returns-clause-takes c =
    takes_at _ _ _ _ (ap (λ l. (c.args.taken.now ++ c.args.others.now) ++ l) c.names.ensures) c.bound_name.ensures.takes
