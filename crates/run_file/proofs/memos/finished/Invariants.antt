use Rattle.std.proofs.Common.{◌≡◌, ◌++◌}
use Rattle.run_file.proofs.memos.finished.Given as goal

-- what is made and what is left
abbrev pub invariant-loop-map : goal.invariant-loop-map
invariant-loop-map g l = l.maps.items ++ l.map-iterator.rest.items ≡ l.fn.filled.items
