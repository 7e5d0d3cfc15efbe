-- The locals so far.
use Rattle.std.proofs.Common.{◌≡◌, ◌++◌, map, take}
use Rattle.boogie_wp.specs.Changes.{local_of}
use Rattle.boogie_wp.proofs.names.add_locals.Given as goal

abbrev pub invariant-loop-change : goal.invariant-loop-change
invariant-loop-change l = l.locals.items ≡ l.initial.locals.items ++ map local_of (take l.change-index l.changes)
