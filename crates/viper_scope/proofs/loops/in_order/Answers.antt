use Rattle.std.proofs.Common.{◌∙◌}
use Rattle.std.proofs.lemmas.List.Filters.{dedup_is}
use Rattle.viper_scope.proofs.ListedLaws.{in_order}
use Rattle.viper_scope.proofs.loops.in_order.Goals as goal

pub returns : goal.returns
returns c =
    c.shrink_to_fit.ensures.items ∙
    in_order c.args.list.items c.sort.new.self.items c.dedup.new.self.items c.sort.ensures.permutation c.in_ok-sort.ensures.sorted (dedup_is _ c.sort.new.self.items c.dedup.new.self.items c.dedup.ensures.filtered)
