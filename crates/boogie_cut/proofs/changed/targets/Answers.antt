use Rattle.std.proofs.Common.{◌∙◌, ◌++◌, ap, nat_lt}
use Rattle.std.specs.List.{filter}
use Rattle.boogie_loops.specs.View.{wstmts_of}
use Rattle.boogie_cut.specs.View.{changed_by}
use Rattle.boogie_cut.proofs.ChangedLaws.{targets_are}
use Rattle.boogie_cut.proofs.changed.targets.Goals as goal

pub returns : goal.returns
returns c =
    targets_are (wstmts_of c.args.body.now) c.args.n c.add_block.new.changed.items c.in_ok-targets.targets.items c.sort_unique.new.numbers.items
    (c.in_ok-add_block.ensures ∙ ap (λ xs. xs ++ changed_by (wstmts_of c.args.body.now)) c.new-changed.ensures.items)
    (c.in_ok-targets.ensures ∙ ap (filter (λ i. nat_lt i c.args.n)) c.deref.ensures.value) c.sort_unique.ensures.rises c.sort_unique.ensures.keeps c.sort_unique.ensures.adds_none
