-- How many called bodies and turns of loops an execution may begin.
use Rattle.std.specs.Prelude.{ℕ}

abbrev pub max_execution_budget : ℕ
max_execution_budget = 10000
