-- The names so far, and then those that are left.
use Rattle.std.proofs.Common.{drop}
use Rattle.boogie_cut.specs.View.{a_names}
use Rattle.boogie_cut.proofs.PlaceLaws.{NotedSoFar}
use Rattle.boogie_cut.proofs.fresh.Taken.of.Given as goal

abbrev pub invariant-loop-local : goal.invariant-loop-local
invariant-loop-local l = NotedSoFar l.names.keys l.many (a_names (drop l.local-index l.locals)) (a_names l.locals)
