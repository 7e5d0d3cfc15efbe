-- The choices so far.
use Rattle.std.proofs.Common.{◌≡◌, map, take}
use Rattle.boogie_wp.specs.Changes.{choice_of}
use Rattle.boogie_wp.proofs.names.LocalVersions.beside.Given as goal

abbrev pub invariant-loop-second : goal.invariant-loop-second
invariant-loop-second l = l.choices.items ≡ map (choice_of l.self.versions.items) (take l.second-index l.seconds)
