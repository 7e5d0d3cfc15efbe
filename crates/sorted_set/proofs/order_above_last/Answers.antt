use Rattle.std.proofs.Common.{◌∙◌}
use Rattle.sorted_set.proofs.Last.{order_by_last}
use Rattle.sorted_set.proofs.order_above_last.Goals as goal

pub returns-in-Some : goal.returns-in-Some
returns-in-Some g c =
    c.cmp.ensures ∙ order_by_last g.K.Ord.cmp c.args.key.now c.args.list.now c.in-Some.last.now c.in-Some.ensures.value
