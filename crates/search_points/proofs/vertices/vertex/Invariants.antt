use Rattle.std.proofs.Common.{◌≤◌}
use Rattle.search_points.proofs.vertices.vertex.Given as goal

abbrev pub invariant-loop : goal.invariant-loop
invariant-loop l = l.fuel.left ≤ l.fn.fuel.left
