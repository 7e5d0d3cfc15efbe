use Rattle.std.proofs.Common.{◌≤◌}
use Rattle.search_agenda.proofs.agenda.Agenda.next.Given as goal

abbrev pub invariant-loop-task : goal.invariant-loop-task
invariant-loop-task l = l.fuel.left ≤ l.fn.fuel.left

abbrev pub decreases-loop-task : goal.decreases-loop-task
decreases-loop-task l = l.fuel.left
