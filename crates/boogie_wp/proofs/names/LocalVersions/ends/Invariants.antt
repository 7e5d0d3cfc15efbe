-- The names of the locals so far.
use Rattle.std.proofs.Common.{◌≡◌, map, take}
use Rattle.boogie_wp.specs.Changes.{end_of}
use Rattle.boogie_wp.proofs.names.LocalVersions.ends.Given as goal

abbrev pub invariant-loop-local : goal.invariant-loop-local
invariant-loop-local l = l.ends.items ≡ map (end_of l.self.versions.items) (take l.local-index l.locals)
