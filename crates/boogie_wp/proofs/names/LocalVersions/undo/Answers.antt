use Rattle.std.proofs.Common.{◌∙◌, ap}
use Rattle.boogie_wp.specs.Changes.{changed}
use Rattle.boogie_wp.proofs.ChangeLaws.{last_undone}
use Rattle.boogie_wp.proofs.names.LocalVersions.undo.Goals as goal

pub loop-change-preserved : goal.loop-change-preserved
loop-change-preserved c = (
  ap (changed c.pop.new.self.items) c.in_ok-exchange.ensures.named
      ∙ last_undone c.pop.new.self.items c.in-Some.change c.loop-change.self.versions.items c.loop-change.self.changes.items c.in-Some.ensures.items ∙ c.loop-change.invariant.0,
  c.in_ok-exchange.ensures.back ∙ c.loop-change.invariant.1,
)
