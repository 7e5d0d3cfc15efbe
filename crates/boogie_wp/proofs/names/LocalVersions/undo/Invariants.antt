-- The names with which the branch began stay the same, and so do those with which it ended.
use Rattle.std.proofs.Common.{◌≡◌}
use Rattle.boogie_wp.specs.Changes.{begun, changed}
use Rattle.boogie_wp.proofs.names.LocalVersions.undo.Given as goal

abbrev pub invariant-loop-change : goal.invariant-loop-change
invariant-loop-change l = (begun l.self ≡ begun l.initial.self) × (changed l.ends.items l.self.versions.items ≡ l.initial.self.versions.items)

abbrev pub decreases-loop-change : goal.decreases-loop-change
decreases-loop-change l = goal.left-loop-change l
