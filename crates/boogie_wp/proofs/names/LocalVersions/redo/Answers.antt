use Rattle.std.proofs.Common.{◌∙◌, ap}
use Rattle.boogie_wp.specs.Changes.{changed}
use Rattle.boogie_wp.proofs.ChangeLaws.{last_undone}
use Rattle.boogie_wp.proofs.names.LocalVersions.redo.Goals as goal

pub loop-end-preserved : goal.loop-end-preserved
loop-end-preserved c = (
  c.in_ok-rename.ensures.begun ∙ c.loop-end.invariant.0,
  ap (changed c.pop.new.self.items) c.in_ok-rename.ensures.named
      ∙ last_undone c.pop.new.self.items c.in-Some.end c.loop-end.self.versions.items c.loop-end.ends.items c.in-Some.ensures.items ∙ c.loop-end.invariant.1,
)
