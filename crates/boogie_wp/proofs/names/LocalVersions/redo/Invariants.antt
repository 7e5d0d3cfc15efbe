-- The names that are left to come back make of those so far what all make of the first ones.
use Rattle.std.proofs.Common.{◌≡◌, length}
use Rattle.boogie_wp.specs.Changes.{begun, changed}
use Rattle.boogie_wp.proofs.names.LocalVersions.redo.Given as goal

abbrev pub invariant-loop-end : goal.invariant-loop-end
invariant-loop-end l =
    (begun l.self ≡ begun l.initial.self) × (changed l.ends.items l.self.versions.items ≡ changed l.initial.ends.items l.initial.self.versions.items)

abbrev pub decreases-loop-end : goal.decreases-loop-end
decreases-loop-end l = length l.ends.items
