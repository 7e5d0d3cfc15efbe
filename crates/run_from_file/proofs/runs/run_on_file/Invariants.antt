use Rattle.std.proofs.Common.{◌≤◌, ◌-◌, ◌^◌}
use Rattle.run_from_file.proofs.runs.run_on_file.Given as goal

abbrev pub invariant-growing : goal.invariant-growing
invariant-growing l = 1 ≤ l.many

abbrev pub decreases-growing : goal.decreases-growing
decreases-growing l = 2 ^ 64 - l.many
